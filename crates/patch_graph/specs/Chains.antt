-- Definition: What filters reach through filters.
use Rattle.std.specs.Prelude.{◌≡◌, ◌⊎◌, ◌↔◌, Bool, true, false, ◌&&◌, ◌||◌, List, [], ◌∷◌}
use Rattle.std.specs.List.{list_all}
use Rattle.node_table.specs.Addresses.{same, is_filter}
use Rattle.node_table.specs.declared.number.Addr.{Addr}
use Rattle.patch_graph.specs.declared.edge.Edge.{Edge}
use Rattle.patch_graph.specs.Edges.{has_edge}

-- one or more edges lead from a to b, each beginning where the one before ends, and all their nodes
-- are filters
abbrev pub is_chain : Addr → Addr → List Edge → Bool
is_chain a b [] = false
is_chain a b (e ∷ []) = same a e.source && is_filter a && is_filter b && same e.target b
is_chain a b (e ∷ f ∷ es) = same a e.source && is_filter a && is_chain e.target b (f ∷ es)

-- all of these edges are in the graph
abbrev pub are_edges : List Edge → List Edge → Bool
are_edges edges es = list_all (λ e. has_edge edges e.source e.target) es

-- some chain of these edges leads from a to b through filters alone
abbrev pub Reaches : List Edge → Addr → Addr → Type 0
Reaches edges a b = (es : List Edge) × (are_edges edges es ≡ true) × (is_chain a b es ≡ true)

-- a is b, or a chain of edges leads from a to b whose nodes are all filters: with one edge more,
-- either without it, or to its beginning and on from its end
unfoldable pub is_joined : List Edge → Addr → Addr → Bool
is_joined [] a b = same a b
is_joined (e ∷ es) a b = is_joined es a b
    || (is_filter e.source && is_filter e.target && is_joined es a e.source
    && is_joined es e.target b)

-- an edge from the source to the target would lead back to the source through filters alone
abbrev pub makes_cycle : List Edge → Addr → Addr → Bool
makes_cycle edges source target =
    is_filter source && is_filter target && is_joined edges target source

-- ---- the law

-- to be joined is to be one node, or to reach the other
abbrev pub JoinedLaw : Type 0
JoinedLaw = (edges : List Edge) (a b : Addr)
    → (is_joined edges a b ≡ true) ↔ ((same a b ≡ true) ⊎ Reaches edges a b)
