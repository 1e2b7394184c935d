-- Representation: What a table knows of the ways from ports, and of the copies that come by them.
use Rattle.std.specs.Prelude.{◌≡◌, ◌≤◌, ◌<◌, ◌+◌, ℕ, List, Option, Some, None, length, take, slice_index_or}
use Rattle.std.specs.Ordering.{nat_cmp}
use Rattle.std.specs.FinMap.{FinMap}
use Rattle.node_table.specs.Kept.{IsPlace}
use Rattle.node_table.specs.Numbers.{most_clients}
use Rattle.node_table.specs.declared.number.Addr.{Addr}
use Rattle.patch_graph.specs.Index.{targets_of}
use Rattle.patch_graph.specs.declared.edge.Edge.{Edge}
use Rattle.seq_state.specs.State.{Client}
use Rattle.seq_sending.specs.Changes.{IsCurrent}
use Rattle.seq_sending.specs.KeptCounts.{AreCountsKept}
use Rattle.seq_sending.specs.Reach.{MayLeadThrough, LeadInOrder}
use Rattle.seq_sending.specs.Ways.{AreWaysTo}
use Rattle.seq_sending.specs.declared.changes.Changes.{Changes}
use Rattle.seq_sending.specs.declared.table.Found.{Found}
use Rattle.seq_sending.specs.declared.table.WayTable.{WayTable}
use Rattle.seq_sending.specs.declared.ways.Way.{Way}

-- the ways to nodes, each of which leads through filters of such clients alone
pub record AreWaysThrough (P : ℕ → ℕ → Type 0) (clients : FinMap nat_cmp Client) (edges : List Edge)
    (nodes : List Addr) (ways : List Way) : Type 0 where
  pub each : AreWaysTo clients edges nodes ways
  pub within : LeadInOrder P edges nodes

-- the ways to the first of such nodes are known, and to so many behind them, the last, not yet
pub record AreWaysSoFar (clients : FinMap nat_cmp Client) (edges : List Edge) (nodes : List Addr)
    (found : Found) : Type 0 where
  pub known :
      let front = take (length found.ways) nodes in
      AreWaysThrough (MayLeadThrough found.through) clients edges front found.ways
  pub newer : length found.ways + found.newer ≡ length nodes

-- What stands at a place was found after no more changes than there were. Where it is current, it
-- is what is known of the ways from the address whose place it is.
pub record IsWayFound (clients : FinMap nat_cmp Client) (edges : List Edge) (changes : Changes)
    (place : ℕ) (found : Found) : Type 0 where
  pub before : found.at ≤ changes.count
  pub ways : (a : Addr) (row : ℕ) → IsPlace a row place →
      IsCurrent changes found.at a.client found.through →
      AreWaysSoFar clients edges (targets_of edges a) found

-- what stands at a place, if anything, is known so
abbrev pub IsSlotFound : FinMap nat_cmp Client → List Edge → Changes → ℕ → Option Found → Type 0
IsSlotFound clients edges changes place slot =
    (found : Found) → slot ≡ Some found → IsWayFound clients edges changes place found

-- of the ways from an address, so much is known where it is current
abbrev pub IsKnownSoFar : FinMap nat_cmp Client → List Edge → Changes → Addr → Option Found → Type 0
IsKnownSoFar clients edges changes a slot =
    (found : Found) → slot ≡ Some found → IsCurrent changes found.at a.client found.through →
    AreWaysSoFar clients edges (targets_of edges a) found

abbrev pub AreWaysFound : FinMap nat_cmp Client → List Edge → Changes → List (Option Found) → Type 0
AreWaysFound clients edges changes places =
    (place : ℕ) → IsSlotFound clients edges changes place (slice_index_or places place None)

-- all that stands in a table was found before a change
abbrev pub AreEarlier : ℕ → List (Option Found) → Type 0
AreEarlier change places =
    (place : ℕ) (found : Found) → slice_index_or places place None ≡ Some found → found.at < change

-- what a table knows is so
pub record AreWaysKept (clients : FinMap nat_cmp Client) (edges : List Edge) (table : WayTable)
    : Type 0 where
  pub rows : length table.changes.last ≡ most_clients
  pub ways : AreWaysFound clients edges table.changes table.places.items
  pub counts : AreCountsKept clients edges table.counts.kept.items
