-- The paths from a node, and the routes, are what a walk along the targets finds.
use Rattle.std.proofs.Common.{◌≡◌, ℕ, zero, suc, Bool, true, false, if◌then◌else◌, cond, ◌&&◌, List, [], ◌∷◌, ◌++◌, map, refl, sym, ap, ◌∙◌}
use Rattle.std.specs.Option.{option_map}
use Rattle.std.specs.List.{filter, flat_map, filter_map, cons_option}
use Rattle.std.proofs.lemmas.List.{map-append}
use Rattle.node_table.specs.Addresses.{same, is_filter}
use Rattle.node_table.specs.declared.number.Addr.{Addr}
use Rattle.patch_graph.specs.declared.edge.Edge.{Edge}
use Rattle.patch_graph.specs.Paths.{chains, is_last, is_path, hops, paths, nodes_of, routes, past, path_of}
use Rattle.patch_graph.specs.Index.{targets_of}
use Rattle.patch_graph.specs.Cursor.{path_from, tails, coming}
use Rattle.patch_graph.proofs.Lists.{filter-map, filter-flat_map, filter-false, flat_map-agree, flat_map-none}

-- ---- the same paths, found by a walk

unfoldable pub walk : ℕ → List Edge → Addr → List (List Edge)
walk zero edges a = []
walk (suc n) edges a = flat_map (λ e. cond (same a e.source) (cond (is_filter e.target) (map (λ es. e ∷ es) (walk n edges e.target)) ((e ∷ []) ∷ [])) []) edges

-- what a walk makes of one edge
abbrev pub hop : ℕ → List Edge → Addr → Edge → List (List Edge)
hop n edges a e = cond (same a e.source) (cond (is_filter e.target) (map (λ es. e ∷ es) (walk n edges e.target)) ((e ∷ []) ∷ [])) []

no_empty : (n : ℕ) (edges : List Edge) → filter is_last (chains n edges) ≡ []
unfolding chains
no_empty zero edges = refl
no_empty (suc n) edges =
    filter-flat_map is_last (λ e. (e ∷ []) ∷ map (λ es. e ∷ es) (chains n edges)) edges
    ∙ flat_map-none (λ e. filter is_last ((e ∷ []) ∷ map (λ es. e ∷ es) (chains n edges)))
    (λ e. filter-map is_last (λ es. e ∷ es) (chains n edges) ∙ ap (map (λ es. e ∷ es)) (filter-false (chains n edges))) edges

-- one edge in front, by whether it begins at the right place (b) and leads to a filter (c)
one_edge : (ends more : List (List Edge)) (e : Edge) (b c : Bool) → filter (is_path e.target) ends ≡ more → filter is_last ends ≡ [] →
    (let longer : List (List Edge) = map (λ es. e ∷ es) (filter (λ es. b && cond c (is_path e.target es) (is_last es)) ends) in
    cond (b && cond c false true) ((e ∷ []) ∷ longer) longer ≡ cond b (cond c (map (λ es. e ∷ es) more) ((e ∷ []) ∷ [])) [])
one_edge ends more e false c h k = ap (map (λ es. e ∷ es)) (filter-false ends)
one_edge ends more e true false h k = ap (λ xs. (e ∷ []) ∷ map (λ es. e ∷ es) xs) k
one_edge ends more e true true h k = ap (map (λ es. e ∷ es)) h

chains-walk : (n : ℕ) (edges : List Edge) (a : Addr) → filter (is_path a) (chains n edges) ≡ walk n edges a
unfolding chains walk
chains-walk zero edges a = refl
chains-walk (suc n) edges a =
    filter-flat_map (is_path a) (λ e. (e ∷ []) ∷ map (λ es. e ∷ es) (chains n edges)) edges
    ∙ flat_map-agree (λ e. filter (is_path a) ((e ∷ []) ∷ map (λ es. e ∷ es) (chains n edges))) (hop n edges a)
    (λ e. ap (λ xs. cond (same a e.source && cond (is_filter e.target) false true) ((e ∷ []) ∷ xs) xs) (filter-map (is_path a) (λ es. e ∷ es) (chains n edges))
    ∙ one_edge (chains n edges) (walk n edges e.target) e (same a e.source) (is_filter e.target) (chains-walk n edges e.target) (no_empty n edges)) edges

pub paths-walk : (edges : List Edge) (a : Addr) → paths edges a ≡ walk hops edges a
unfolding paths
paths-walk edges a = chains-walk hops edges a

-- ---- the same as routes

module _ {X Y : Type 0} where
  map-flat_map : {Z : Type 0} (f : Y → Z) (g : X → List Y) (xs : List X) → map f (flat_map g xs) ≡ flat_map (λ x. map f (g x)) xs
  map-flat_map f g [] = refl
  map-flat_map f g (x ∷ xs) = map-append f (g x) (flat_map g xs) ∙ ap (λ ys. map f (g x) ++ ys) (map-flat_map f g xs)

  -- over the images of what passes a test
  flat_map-passed : {Z : Type 0} (p : X → Bool) (f : X → Y) (g : Y → List Z) (xs : List X) → flat_map g (map f (filter p xs)) ≡ flat_map (λ x. if p x then g (f x) else []) xs
  flat_map-passed p f g [] = refl
  flat_map-passed p f g (x ∷ xs) = step (p x) (flat_map-passed p f g xs)
    where
      step : (b : Bool) → flat_map g (map f (filter p xs)) ≡ flat_map (λ x. if p x then g (f x) else []) xs → flat_map g (map f (cond b (x ∷ filter p xs) (filter p xs))) ≡ (if b then g (f x) else []) ++ flat_map (λ x. if p x then g (f x) else []) xs
      step true h = ap (λ ys. g (f x) ++ ys) h
      step false h = h

nodes-longer : (e : Edge) (ps : List (List Edge)) → map nodes_of (map (λ es. e ∷ es) ps) ≡ map (λ r. e.target ∷ r) (map nodes_of ps)
nodes-longer e [] = refl
nodes-longer e (p ∷ ps) = ap (λ rs. (e.target ∷ nodes_of p) ∷ rs) (nodes-longer e ps)

abbrev leaf : ℕ → List Edge → Addr → List (List Addr)
leaf n edges t = if is_filter t then map (λ r. t ∷ r) (tails n edges (targets_of edges t)) else (t ∷ []) ∷ []

walk-tails : (n : ℕ) (edges : List Edge) (a : Addr) → map nodes_of (walk n edges a) ≡ tails n edges (targets_of edges a)
unfolding walk tails
walk-tails zero edges a = refl
walk-tails (suc n) edges a =
    map-flat_map nodes_of (hop n edges a) edges
    ∙ flat_map-agree (λ e. map nodes_of (hop n edges a e)) (λ e. if same a e.source then leaf n edges e.target else []) (λ e. one e (walk-tails n edges e.target) (same a e.source) (is_filter e.target)) edges
    ∙ sym (flat_map-passed (λ e. same a e.source) (λ e. e.target) (leaf n edges) edges)
  where
    one : (e : Edge) → map nodes_of (walk n edges e.target) ≡ tails n edges (targets_of edges e.target) → (b c : Bool) →
        map nodes_of (cond b (cond c (map (λ es. e ∷ es) (walk n edges e.target)) ((e ∷ []) ∷ [])) []) ≡ (if b then (if c then map (λ r. e.target ∷ r) (tails n edges (targets_of edges e.target)) else (e.target ∷ []) ∷ []) else [])
    one e h false c = refl
    one e h true false = refl
    one e h true true = nodes-longer e (walk n edges e.target) ∙ ap (map (λ r. e.target ∷ r)) h

pub routes-tails : (edges : List Edge) (a : Addr) → routes edges a ≡ tails hops edges (targets_of edges a)
routes-tails edges a = ap (map nodes_of) (paths-walk edges a) ∙ walk-tails hops edges a

map-same : (xs : List (List Addr)) → map (λ r. [] ++ r) xs ≡ xs
map-same [] = refl
map-same (x ∷ xs) = ap (λ ys. x ∷ ys) (map-same xs)

append_nil : (xs : List (List Addr)) → xs ++ [] ≡ xs
append_nil [] = refl
append_nil (x ∷ xs) = ap (λ ys. x ∷ ys) (append_nil xs)

-- at the first depth, with all targets left
pub coming-routes : (edges : List Edge) (a : Addr) (nodes : List Addr) (ts : List Addr) (left : List (List Addr)) → ts ≡ targets_of edges a → coming edges nodes (ts ∷ left) 1 ≡ routes edges a
unfolding coming hops
coming-routes edges a nodes ts left e = append_nil (map (λ r. [] ++ r) (tails hops edges ts)) ∙ map-same (tails hops edges ts) ∙ ap (tails hops edges) e ∙ sym (routes-tails edges a)

-- ---- as paths

path-nodes : (p : List Edge) → path_of p ≡ path_from (nodes_of p)
path-nodes [] = refl
path-nodes (e ∷ []) = refl
path-nodes (e ∷ f ∷ es) = ap (option_map (past e.target)) (path-nodes (f ∷ es))

paths-from : (ps : List (List Edge)) → filter_map path_of ps ≡ filter_map path_from (map nodes_of ps)
paths-from [] = refl
paths-from (p ∷ ps) = (λ j. cons_option (path-nodes p j) (paths-from ps j))

pub routes-paths : (edges : List Edge) (a : Addr) → filter_map path_from (routes edges a) ≡ filter_map path_of (paths edges a)
routes-paths edges a = sym (paths-from (paths edges a))
