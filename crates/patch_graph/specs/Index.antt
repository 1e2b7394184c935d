-- Representation: How a graph is kept, beside its list of edges.
use Rattle.std.specs.Prelude.{◌≡◌, ◌<◌, ◌≤◌, ℕ, ◌+◌, Bool, true, not, ◌&&◌, List, [], ◌∷◌, map, length, slice_index_or}
use Rattle.std.specs.List.{filter}
use Rattle.node_table.specs.Addresses.{same}
use Rattle.node_table.specs.Kept.{IsPlace}
use Rattle.node_table.specs.Numbers.{places}
use Rattle.node_table.specs.declared.number.Addr.{Addr}
use Rattle.patch_graph.specs.declared.edge.Edge.{Edge}
use Rattle.patch_graph.specs.Edges.{has_edge, without_edge, touches, sources_of, most_sources}
use Rattle.patch_graph.specs.Chains.{Reaches}

-- the targets of a node, oldest edge first
abbrev pub targets_of : List Edge → Addr → List Addr
targets_of edges a = map (λ e. e.target) (filter (λ e. same a e.source) edges)

-- the nodes that are joined to a node, oldest edge first
abbrev pub origins_of : List Edge → Addr → List Addr
origins_of edges a = map (λ e. e.source) (filter (λ e. same a e.target) edges)

-- one edge that touches the node is gone
abbrev pub LosesOne : Addr → List Edge → List Edge → Type 0
LosesOne node old new = (e : Edge) × (has_edge old e.source e.target ≡ true)
    × (touches node e ≡ true) × (new ≡ without_edge old e.source e.target)

abbrev pub is_distinct : List Edge → Bool
is_distinct [] = true
is_distinct (e ∷ es) = not (has_edge es e.source e.target) && is_distinct es

-- what holds of the edges of every graph
pub record IsGraph (edges : List Edge) : Type 0 where
  pub distinct : is_distinct edges ≡ true
  pub few : (a : Addr) → sources_of edges a ≤ most_sources
  pub acyclic : (a : Addr) → Reaches edges a a → ⊥

-- a table with each place, or one without any where there are no edges
abbrev pub HasPlaces : {X Y : Type 0} → List X → List Y → Type 0
HasPlaces edges lists = 0 < length edges + length lists → length lists ≡ places

-- some place is that of the address
abbrev pub HasPlace : Addr → Type 0
HasPlace a = (row place : ℕ) × IsPlace a row place

-- at the place of each address stands what `other` has of the edges whose one end it is
pub record IsListed {X Y : Type 0} (one : X → Addr) (other : X → Y) (edges : List X)
    (lists : List (List Y)) : Type 0 where
  pub list_places : HasPlaces edges lists
  pub listed : (a : Addr) (row place : ℕ) → IsPlace a row place
      → slice_index_or lists place [] ≡ map other (filter (λ x. same a (one x)) edges)
