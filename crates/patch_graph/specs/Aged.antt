-- Representation: The edges of a graph, each with a number that tells its age, as two tables have
-- them.
use Rattle.std.specs.Prelude.{◌≡◌, ◌≤◌, ℕ, ◌+◌, ◌-◌, ◌%◌, true, nat_lt, if◌then◌else◌, List, [], ◌∷◌, map, length, flat_map, Option}
use Rattle.std.specs.List.{AllByRecursion, slice_get, zip}
use Rattle.node_table.specs.Kept.{IsPlace}
use Rattle.node_table.specs.Numbers.{places}
use Rattle.node_table.specs.declared.number.Addr.{Addr}
use Rattle.patch_graph.specs.declared.edge.Edge.{Edge}
use Rattle.patch_graph.specs.Edges.{edge, has_edge}
use Rattle.patch_graph.specs.Index.{IsGraph, IsListed, HasPlace}

-- the ages rise, from `least` on, and all are below `next`
abbrev pub IsRising : {X : Type 0} → ℕ → List (X × ℕ) → ℕ → Type 0
IsRising least [] next = least ≤ next
IsRising least (x ∷ xs) next = (least ≤ x.1) × IsRising (x.1 + 1) xs next

-- the age of an edge tells the place of the node where it begins
abbrev pub TellsPlace : ℕ → Addr → Type 0
TellsPlace age a = (row : ℕ) × IsPlace a row (age % places)

-- the last, where the ages rise
abbrev pub youngest : List (Addr × ℕ) → Option (Addr × ℕ)
youngest links = slice_get links (length links - 1)

-- put among what stands in order of age
abbrev pub put_by_age : Addr × ℕ → List (Addr × ℕ) → List (Addr × ℕ)
put_by_age x [] = x ∷ []
put_by_age x (y ∷ ys) = if nat_lt x.1 y.1 then x ∷ y ∷ ys else y ∷ put_by_age x ys

-- in order of age
unfoldable pub by_age : List (Addr × ℕ) → List (Addr × ℕ)
by_age [] = []
by_age (x ∷ xs) = put_by_age x (by_age xs)

-- what stands at all places of a table
abbrev pub all_of : List (List (Addr × ℕ)) → List (Addr × ℕ)
all_of table = flat_map (λ links. links) table

-- by age stand the target of each edge in one table, and its source in the other
unfoldable pub aged_edges : (targets sources : List (List (Addr × ℕ))) → List (Edge × ℕ)
aged_edges targets sources = map (λ p. (edge p.1.0 p.0.0, p.0.1))
    (zip (by_age (all_of targets)) (by_age (all_of sources)))

abbrev pub edges_of : List (Edge × ℕ) → List Edge
edges_of aged = map (λ x. x.0) aged

-- At the place of each address stand its targets and its sources, each with the age of the edge.
-- The ages rise, all below `next`, and each tells where its edge begins.
pub record AreAged (aged : List (Edge × ℕ)) (targets sources : List (List (Addr × ℕ)))
    (next count : ℕ) : Type 0 where
  pub graph : IsGraph (edges_of aged)
  pub onward : IsListed (λ x. x.0.source) (λ x. (x.0.target, x.1)) aged targets
  pub back : IsListed (λ x. x.0.target) (λ x. (x.0.source, x.1)) aged sources
  pub placed : (e : Edge) → has_edge (edges_of aged) e.source e.target ≡ true
      → HasPlace e.source × HasPlace e.target
  pub rising : IsRising 0 aged next
  pub told : AllByRecursion (λ x. TellsPlace x.1 x.0.source) aged
  pub counted : count ≡ length aged
