-- Representation: How often rules and subscriptions changed, and on whose changes ways hang.
use Rattle.std.specs.Prelude.{◌≡◌, ◌≢◌, ◌≤◌, ◌-◌, ℕ, true, List, slice_index_or}
use Rattle.std.specs.Ordering.{nat_cmp}
use Rattle.std.specs.FinMap.{FinMap, get}
use Rattle.node_table.specs.Addresses.{is_filter}
use Rattle.node_table.specs.Numbers.{first_client}
use Rattle.node_table.specs.declared.number.Addr.{Addr}
use Rattle.patch_graph.specs.Index.{targets_of}
use Rattle.patch_graph.specs.declared.edge.Edge.{Edge}
use Rattle.seq_state.specs.State.{Client, filters_of}
use Rattle.seq_sending.specs.Reach.{is_among}
use Rattle.seq_sending.specs.declared.changes.Changes.{Changes}
use Rattle.seq_sending.specs.declared.reach.Through.{Through}
use Rattle.seq_sending.specs.declared.reach.Through.TheVariants.{These, Anyone}

-- such clients have the same filters in both, and the same leaves such nodes
pub record AgreeOn (P : ℕ → Type 0) (N : Addr → Type 0) (clients others : FinMap nat_cmp Client)
    (edges other_edges : List Edge) : Type 0 where
  pub filters : (c : ℕ) → P c → filters_of (get clients c) ≡ filters_of (get others c)
  pub targets : (a : Addr) → N a → targets_of edges a ≡ targets_of other_edges a

-- all clients but one have the same filters, and the same leaves their nodes
abbrev pub AgreeBut : ℕ → FinMap nat_cmp Client → FinMap nat_cmp Client → List Edge → List Edge
    → Type 0
AgreeBut client clients others edges other_edges =
    AgreeOn (λ c. c ≢ client) (λ a. a.client ≢ client) clients others edges other_edges

-- such clients have the same filters, and the same leaves these
abbrev pub AgreeOnFilters : (ℕ → Type 0) → FinMap nat_cmp Client → FinMap nat_cmp Client
    → List Edge → List Edge → Type 0
AgreeOnFilters P clients others edges other_edges =
    AgreeOn P (λ a. (is_filter a ≡ true) × P a.client) clients others edges other_edges

-- the number of the last change that was this client's
abbrev pub last_change : Changes → ℕ → ℕ
last_change changes c = slice_index_or changes.last (c - first_client) 0

-- none of these clients changed after the first `at` changes
abbrev pub AreUnchanged : Changes → ℕ → Through → Type 0
AreUnchanged changes at (These passed) =
    (c : ℕ) → is_among passed.items c ≡ true → last_change changes c ≤ at
AreUnchanged changes at Anyone = changes.count ≤ at

-- after the first `at` changes nothing changed on which the ways from a client's port hang
pub record IsCurrent (changes : Changes) (at client : ℕ) (through : Through) : Type 0 where
  pub own : last_change changes client ≤ at
  pub others : AreUnchanged changes at through
