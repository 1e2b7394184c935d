-- Representation: Counts that are kept, and what they count.
use Rattle.std.specs.Prelude.{◌≡◌, ◌+◌, ◌<◌, ℕ, List, Some, length, slice_get, slice_index}
use Rattle.std.specs.Ordering.{nat_cmp}
use Rattle.std.specs.FinMap.{FinMap}
use Rattle.node_table.specs.Kept.{IsPlace}
use Rattle.node_table.specs.Numbers.{first_client, most_clients}
use Rattle.node_table.specs.declared.number.Addr.{Addr}
use Rattle.patch_graph.specs.Index.{targets_of}
use Rattle.patch_graph.specs.Paths.{hops}
use Rattle.patch_graph.specs.declared.edge.Edge.{Edge}
use Rattle.seq_state.specs.State.{Client}
use Rattle.seq_sending.specs.Classes.{way_class}
use Rattle.seq_sending.specs.Counts.{ways_for}
use Rattle.seq_sending.specs.declared.class.WayClass.{WayClass}
use Rattle.seq_sending.specs.declared.kept_counts.KeptCount.{KeptCount}

-- the copies of a message that goes to nodes, by the rows of their clients
pub record AreCounts (clients : FinMap nat_cmp Client) (edges : List Edge) (targets : List Addr)
    (message counts : List ℕ) : Type 0 where
  pub rows : length counts ≡ most_clients
  pub each : (row : ℕ) → row < most_clients → slice_index counts row
      ≡ ways_for clients edges (first_client + row) hops targets message

-- of each message of a class
abbrev pub AreClassCounts : FinMap nat_cmp Client → List Edge → List Addr → WayClass → List ℕ
    → Type 0
AreClassCounts clients edges targets class counts =
    (message : List ℕ) → way_class message ≡ class → AreCounts clients edges targets message counts

-- each of them is so of its class, from the port whose place it has
abbrev pub AreCountsKept : FinMap nat_cmp Client → List Edge → List KeptCount → Type 0
AreCountsKept clients edges kept =
    (i : ℕ) (k : KeptCount) → slice_get kept i ≡ Some k → (a : Addr) (row : ℕ) →
    IsPlace a row k.place → AreClassCounts clients edges (targets_of edges a) k.class k.counts
