-- Representation: Through whose filters nodes lead.
use Rattle.std.specs.Prelude.{◌≡◌, ◌==◌, ◌-◌, ◌&&◌, ℕ, zero, suc, Bool, true, nat_le, List, Some, slice_get}
use Rattle.std.specs.List.{AllByRecursion, list_any}
use Rattle.node_table.specs.Addresses.{is_filter}
use Rattle.node_table.specs.declared.number.Addr.{Addr}
use Rattle.patch_graph.specs.Index.{targets_of}
use Rattle.patch_graph.specs.Paths.{hops}
use Rattle.patch_graph.specs.declared.edge.Edge.{Edge}
use Rattle.seq_sending.specs.declared.reach.Passed.{Passed}
use Rattle.seq_sending.specs.declared.reach.Through.{Through}
use Rattle.seq_sending.specs.declared.reach.Through.TheVariants.{These, Anyone}

-- whether a client is one of these
abbrev pub is_among : List Passed → ℕ → Bool
is_among passed c = list_any (λ x. x.client == c) passed

-- whether it is one of those that the ways up to one of them lead through
abbrev pub is_passed : List Passed → ℕ → ℕ → Bool
is_passed passed way c = list_any (λ x. (x.client == c) && nat_le x.way way) passed

-- this way may lead through a filter of the client
abbrev pub MayLeadThrough : Through → ℕ → ℕ → Type 0
MayLeadThrough (These passed) way c = is_passed passed.items way c ≡ true
MayLeadThrough Anyone way c = Unit {0}

-- all filters among the nodes, and those behind them along at most n edges, are of such clients
unfoldable pub LeadWithin : (ℕ → Type 0) → List Edge → ℕ → List Addr → Type 0
LeadWithin P edges zero nodes = Unit {0}
LeadWithin P edges (suc n) nodes =
    AllByRecursion
    (λ a. is_filter a ≡ true → P a.client × LeadWithin P edges n (targets_of edges a)) nodes

-- where the node is a filter, it is of such a client, and so are those behind it
abbrev pub LeadsWithin : (ℕ → Type 0) → List Edge → ℕ → Addr → Type 0
LeadsWithin P edges n node =
    is_filter node ≡ true → P node.client × LeadWithin P edges n (targets_of edges node)

-- each of the nodes that a port is joined to leads to filters of clients that its way may pass
abbrev pub LeadInOrder : (ℕ → ℕ → Type 0) → List Edge → List Addr → Type 0
LeadInOrder P edges nodes =
    (way : ℕ) (node : Addr) → slice_get nodes way ≡ Some node →
    LeadsWithin (P way) edges (hops - 1) node
