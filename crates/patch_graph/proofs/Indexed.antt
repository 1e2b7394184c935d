-- How a graph's lists of neighbours follow its edges.
use Rattle.std.proofs.Common.{◌≡◌, inl, inr, ℕ, zero, suc, ◌+◌, ◌-◌, ◌<◌, ◌≤◌, Bool, true, false, not, cond, eqb, ◌&&◌, ◌||◌, List, [], ◌∷◌, ◌++◌, map, length, get_or, set, Option, Some, None, is_some, refl, ap, sym, subst, ◌∙◌, arith}
use Rattle.std.specs.List.{AllByRecursion, filter, list_any, slice_get}
use Rattle.std.specs.Map.{lookup}
use Rattle.std.proofs.lemmas.Bool.{false≢true, cases_eq, or_cases}
use Rattle.std.proofs.lemmas.List.{get_or-set_same, get_or-set_other, length-set, length-append, map-append, append-nil}
use Rattle.std.proofs.lemmas.List.Elements.{filter-append}
use Rattle.std.proofs.lemmas.List.Folds.{list_any-append}
use Rattle.std.proofs.lemmas.Option.{slice_get-get_or}
use Rattle.node_table.specs.Addresses.{same}
use Rattle.node_table.specs.Kept.{IsPlace, ReadsAs}
use Rattle.node_table.specs.declared.number.Addr.{Addr}
use Rattle.patch_graph.specs.declared.edge.Edge.{Edge}
use Rattle.patch_graph.specs.Edges.{edge, is_edge, has_edge, without_edge, sources_of, most_sources}
use Rattle.patch_graph.specs.Chains.{is_chain, are_edges, makes_cycle}
use Rattle.patch_graph.specs.Index.{targets_of, origins_of, is_distinct, IsGraph, HasPlace, IsListed}
use Rattle.patch_graph.specs.Aged.{IsRising, TellsPlace, youngest, edges_of, AreAged}
use Rattle.patch_graph.proofs.Lists.{both_left, both_right, and_both, not_by, not_true, refuted, filter-none, filter-map, filter-outside, list_any-filter, length-filter_filter, filter-mapped, all-filter, all-more, all-map}
use Rattle.patch_graph.proofs.Linked.{without_age, none_below, is_age, not_age, rising-filter, rising-last, rising-map, length-rising, to_more}
use Rattle.patch_graph.proofs.Same.{same-is, same-from, same-sym, differ, place-is, is-place, place-below}
use Rattle.patch_graph.proofs.Chained.{acyclic-added, acyclic-fewer}

-- ---- one edge more

sources_of-added : (edges : List Edge) (s t a : Addr) → sources_of (edges ++ edge s t ∷ []) a ≡ sources_of edges a + cond (same a t) 1 0
sources_of-added edges s t a =
    ap length (filter-append (λ e. same a e.target) edges (edge s t ∷ []))
    ∙ length-append (filter (λ e. same a e.target) edges) (filter (λ e. same a e.target) (edge s t ∷ []))
    ∙ ap (λ n. sources_of edges a + n) (one (same a t))
  where
    one : (b : Bool) → length (cond b (edge s t ∷ []) []) ≡ cond b 1 0
    one true = refl
    one false = refl

sources_of-elsewhere : (edges : List Edge) (s t a : Addr) → same a t ≡ false → sources_of (edges ++ edge s t ∷ []) a ≡ sources_of edges a
sources_of-elsewhere edges s t a n = sources_of-added edges s t a ∙ ap (λ b. sources_of edges a + cond b 1 0) n ∙ omega arith

pub is_edge-swap : (s t : Addr) (e : Edge) → is_edge e.source e.target (edge s t) ≡ is_edge s t e
is_edge-swap s t e = ap (λ b. b && same e.target t) (same-sym e.source s) ∙ ap (λ b. same s e.source && b) (same-sym e.target t)

pub distinct-added : (edges : List Edge) (s t : Addr) → is_distinct edges ≡ true → has_edge edges s t ≡ false → is_distinct (edges ++ edge s t ∷ []) ≡ true
distinct-added [] s t d h = refl
distinct-added (e ∷ es) s t d h =
    step (is_edge s t e) (has_edge es s t) h
    (sym (list_any-append (is_edge e.source e.target) es (edge s t ∷ []))) (is_edge-swap s t e)
    (both_left (not (has_edge es e.source e.target)) (is_distinct es) d) (λ k. distinct-added es s t (both_right (not (has_edge es e.source e.target)) (is_distinct es) d) k)
  where
    step : (b c : Bool) → (b || c) ≡ false → (has_edge es e.source e.target || (is_edge e.source e.target (edge s t) || false)) ≡ has_edge (es ++ edge s t ∷ []) e.source e.target → is_edge e.source e.target (edge s t) ≡ b →
        not (has_edge es e.source e.target) ≡ true → (c ≡ false → is_distinct (es ++ edge s t ∷ []) ≡ true) → (not (has_edge (es ++ edge s t ∷ []) e.source e.target) && is_distinct (es ++ edge s t ∷ [])) ≡ true
    step b c h f g d more = grind arith

module _ (edges : List Edge) (s t : Addr) (graph : IsGraph edges) (fresh : has_edge edges s t ≡ false) (room : sources_of edges t < most_sources) (clear : makes_cycle edges s t ≡ false) where
  few-added : (a : Addr) → sources_of (edges ++ edge s t ∷ []) a ≤ most_sources
  few-added a = by (same a t) refl
    where
      by : (b : Bool) → same a t ≡ b → sources_of (edges ++ edge s t ∷ []) a ≤ most_sources
      by true e = let here : sources_of edges a ≡ sources_of edges t = ap (sources_of edges) (same-is a t e) in
          let more : sources_of (edges ++ edge s t ∷ []) a ≡ sources_of edges a + 1 = sources_of-added edges s t a ∙ ap (λ b. sources_of edges a + cond b 1 0) e in
          omega arith
      by false e = let rest : sources_of (edges ++ edge s t ∷ []) a ≡ sources_of edges a = sources_of-elsewhere edges s t a e in
          let old : sources_of edges a ≤ most_sources = graph.few a in
          omega arith

  pub graph-added : IsGraph (edges ++ edge s t ∷ [])
  graph-added = record { distinct = distinct-added edges s t graph.distinct fresh; few = few-added; acyclic = acyclic-added edges s t graph.acyclic clear }

-- what stands at the place of a node
abbrev pub listed_of : {X Y : Type 0} → (X → Addr) → (X → Y) → List X → Addr → List Y
listed_of one other edges a = map other (filter (λ e. same a (one e)) edges)

module _ {X Y : Type 0} (one : X → Addr) (other : X → Y) (edges : List X) (g : X) where
  list-added : (a : Addr) (b : Bool) → same a (one g) ≡ b → listed_of one other (edges ++ g ∷ []) a ≡ listed_of one other edges a ++ cond b (other g ∷ []) []
  list-added a b h =
      ap (map other) (filter-append (λ e. same a (one e)) edges (g ∷ []))
      ∙ map-append other (filter (λ e. same a (one e)) edges) (filter (λ e. same a (one e)) (g ∷ []))
      ∙ ap (λ ys. listed_of one other edges a ++ ys) (ap (λ c. map other (cond c (g ∷ []) [])) h ∙ alone b)
    where
      alone : (b : Bool) → map other (cond b (g ∷ []) []) ≡ cond b (other g ∷ []) []
      alone true = refl
      alone false = refl

  pub listed-added : (lists : List (List Y)) (r p : ℕ) → IsListed one other edges lists → length lists ≡ 2048 → IsPlace (one g) r p → IsListed one other (edges ++ g ∷ []) (set lists p (get_or lists p [] ++ other g ∷ []))
  listed-added lists r p h long at =
      record {
        list_places = λ _. length-set lists p (get_or lists p [] ++ other g ∷ []) ∙ long;
        listed = λ a row place k. elim (cases_eq place p) [
          | inl e ↦ let here : a ≡ one g = place-is a (one g) row r p (subst (IsPlace a row) e k) at in
              ap (λ n. get_or (set lists p (get_or lists p [] ++ other g ∷ [])) n []) e
              ∙ get_or-set_same lists p (get_or lists p [] ++ other g ∷ []) [] (subst (λ n. p < n) (sym long) (place-below (one g) r p at))
              ∙ ap (λ xs. xs ++ other g ∷ []) (h.listed (one g) r p at) ∙ ap (λ x. listed_of one other edges x ++ other g ∷ []) (sym here)
              ∙ sym (list-added a true (same-from a (one g) here))
          | inr n ↦ get_or-set_other lists p place (get_or lists p [] ++ other g ∷ []) [] n ∙ h.listed a row place k
              ∙ sym (list-added a false (differ a (one g) (λ e. n (is_place a row place k e))) ∙ append-nil (listed_of one other edges a))
        ];
      }
    where
      is_place : (a : Addr) (row place : ℕ) → IsPlace a row place → a ≡ one g → place ≡ p
      is_place a row place k e = is-place a (one g) row r place p k at e

-- ---- fewer edges

pub distinct-filter : (q : Edge → Bool) (edges : List Edge) → is_distinct edges ≡ true → is_distinct (filter q edges) ≡ true
distinct-filter q [] d = refl
distinct-filter q (e ∷ es) d =
    step (q e) (distinct-filter q es (both_right (not (has_edge es e.source e.target)) (is_distinct es) d))
  where
    gone : has_edge (filter q es) e.source e.target ≡ false
    gone = refuted (has_edge (filter q es) e.source e.target) (λ h. false≢true (sym (not_true (has_edge es e.source e.target) (both_left (not (has_edge es e.source e.target)) (is_distinct es) d)) ∙ list_any-filter (is_edge e.source e.target) q es h))

    step : (b : Bool) → is_distinct (filter q es) ≡ true → is_distinct (cond b (e ∷ filter q es) (filter q es)) ≡ true
    step true more = and_both (not (has_edge (filter q es) e.source e.target)) (is_distinct (filter q es)) (ap not gone) more
    step false more = more

pub graph-filter : (q : Edge → Bool) (edges : List Edge) → IsGraph edges → IsGraph (filter q edges)
graph-filter q edges h =
    record {
      distinct = distinct-filter q edges h.distinct;
      few = λ a. let less : sources_of (filter q edges) a ≤ sources_of edges a = length-filter_filter (λ e. same a e.target) q edges in
          let old : sources_of edges a ≤ most_sources = h.few a in
          omega arith;
      acyclic = acyclic-fewer edges (filter q edges) (λ a b. list_any-filter (is_edge a b) q edges) h.acyclic;
    }

pub same_edge : (s t : Addr) (e : Edge) → is_edge s t e ≡ true → e ≡ edge s t
same_edge s t e h =
    let source : s ≡ e.source = same-is s e.source (both_left (same s e.source) (same t e.target) h) in
    let target : t ≡ e.target = same-is t e.target (both_right (same s e.source) (same t e.target) h) in
    λ j. record { source = sym source j; target = sym target j }

-- ---- the age of an edge

-- the edges without one of them, each with its age
abbrev pub without : Addr → Addr → List (Edge × ℕ) → List (Edge × ℕ)
without s t aged = filter (λ x. not (is_edge s t x.0)) aged

pub edges-without : (s t : Addr) (aged : List (Edge × ℕ)) → edges_of (without s t aged) ≡ without_edge (edges_of aged) s t
edges-without s t aged = sym (filter-map (λ e. not (is_edge s t e)) (λ (x : Edge × ℕ). x.0) aged)

-- an edge that is there has an age
pub has_age : (aged : List (Edge × ℕ)) (s t : Addr) → is_some (lookup (is_edge s t) aged) ≡ has_edge (edges_of aged) s t
has_age [] s t = refl
has_age (x ∷ xs) s t = by (is_edge s t x.0) (has_age xs s t)
  where
    by : (b : Bool) → is_some (lookup (is_edge s t) xs) ≡ has_edge (edges_of xs) s t → is_some (cond b (Some x.1) (lookup (is_edge s t) xs)) ≡ (b || has_edge (edges_of xs) s t)
    by true h = refl
    by false h = h

pub there_by_age : (aged : List (Edge × ℕ)) (s t : Addr) (n : ℕ) → lookup (is_edge s t) aged ≡ Some n → has_edge (edges_of aged) s t ≡ true
there_by_age aged s t n h = sym (has_age aged s t) ∙ ap is_some h

-- of distinct edges only one is this
only_one : (x : Edge × ℕ) (xs : List (Edge × ℕ)) (s t : Addr) → is_distinct (edges_of (x ∷ xs)) ≡ true → is_edge s t x.0 ≡ true → has_edge (edges_of xs) s t ≡ false
only_one x xs s t d h =
    ap (λ (g : Edge). has_edge (edges_of xs) g.source g.target) (sym (same_edge s t x.0 h))
    ∙ not_true (has_edge (edges_of xs) x.0.source x.0.target) (both_left (not (has_edge (edges_of xs) x.0.source x.0.target)) (is_distinct (edges_of xs)) d)

distinct_rest : (x : Edge × ℕ) (xs : List (Edge × ℕ)) → is_distinct (edges_of (x ∷ xs)) ≡ true → is_distinct (edges_of xs) ≡ true
distinct_rest x xs d = both_right (not (has_edge (edges_of xs) x.0.source x.0.target)) (is_distinct (edges_of xs)) d

pub age_above : (k : ℕ) (xs : List (Edge × ℕ)) (next : ℕ) (s t : Addr) (n : ℕ) → IsRising k xs next → lookup (is_edge s t) xs ≡ Some n → k ≤ n
age_above k [] next s t n h e = absurd (no e)
  where
    no : ◌≡◌ {A = Option ℕ} None (Some n) → ⊥
    no e = cc
age_above k (x ∷ xs) next s t n h e = by (is_edge s t x.0) e (λ f. age_above (x.1 + 1) xs next s t n h.1 f)
  where
    by : (b : Bool) → cond b (Some x.1) (lookup (is_edge s t) xs) ≡ Some n → (lookup (is_edge s t) xs ≡ Some n → x.1 + 1 ≤ n) → k ≤ n
    by true f more = let is : x.1 ≡ n = cc in omega (arith, h.0)
    by false f more = let rest : x.1 + 1 ≤ n = more f in omega (arith, h.0)

-- what goes by its age is the edge
pub gone_by_age : (k : ℕ) (xs : List (Edge × ℕ)) (next : ℕ) (s t : Addr) (n : ℕ) → IsRising k xs next → is_distinct (edges_of xs) ≡ true → lookup (is_edge s t) xs ≡ Some n → (without_age n xs ≡ without s t xs) × (length (without s t xs) + 1 ≡ length xs)
gone_by_age k [] next s t n h d e = absurd (no e)
  where
    no : ◌≡◌ {A = Option ℕ} None (Some n) → ⊥
    no e = cc
gone_by_age k (x ∷ xs) next s t n h d e = by (is_edge s t x.0) refl e (λ f. gone_by_age (x.1 + 1) xs next s t n h.1 (distinct_rest x xs d) f) (λ f. age_above (x.1 + 1) xs next s t n h.1 f)
  where
    all_stay : is_edge s t x.0 ≡ true → without s t xs ≡ xs
    all_stay b = filter-none (λ y. is_edge s t y.0) xs (any_edges xs ∙ only_one x xs s t d b)
      where
        any_edges : (ys : List (Edge × ℕ)) → list_any (λ y. is_edge s t y.0) ys ≡ has_edge (edges_of ys) s t
        any_edges [] = refl
        any_edges (y ∷ ys) = ap (λ b. is_edge s t y.0 || b) (any_edges ys)

    by : (b : Bool) → is_edge s t x.0 ≡ b → cond b (Some x.1) (lookup (is_edge s t) xs) ≡ Some n → (lookup (is_edge s t) xs ≡ Some n → (without_age n xs ≡ without s t xs) × (length (without s t xs) + 1 ≡ length xs)) → (lookup (is_edge s t) xs ≡ Some n → x.1 + 1 ≤ n) →
        (cond (not (eqb x.1 n)) (x ∷ without_age n xs) (without_age n xs) ≡ cond (not b) (x ∷ without s t xs) (without s t xs)) × (length (cond (not b) (x ∷ without s t xs) (without s t xs)) + 1 ≡ suc (length xs))
    by true b f more low = let is : x.1 ≡ n = cc in (
      ap (λ c. cond c (x ∷ without_age n xs) (without_age n xs)) (is_age x.1 n is) ∙ none_below n (x.1 + 1) xs next (omega (arith, is)) h.1 ∙ sym (all_stay b),
      ap (λ ys. length ys + 1) (all_stay b) ∙ omega arith,
    )
    by false b f more low = let less : x.1 + 1 ≤ n = low f in (
      ap (λ c. cond c (x ∷ without_age n xs) (without_age n xs)) (not_age x.1 n (λ i. omega (arith, less, i))) ∙ ap (λ ys. x ∷ ys) (more f).0,
      omega (arith, (more f).1),
    )

-- ---- from one end of the edges, where a test of an edge tests both its ends
module _ (one oth : Edge → Addr) (a b : Addr) (test : Edge → Bool) (pair : (e : Edge) → test e ≡ (same a (one e) && same b (oth e))) where
  abbrev link : Edge × ℕ → Addr × ℕ
  link x = (oth x.0, x.1)

  abbrev links : List (Edge × ℕ) → List (Addr × ℕ)
  links xs = listed_of (λ x. one x.0) link xs a

  pub age_from : (xs : List (Edge × ℕ)) → lookup (same b) (links xs) ≡ lookup test xs
  age_from [] = refl
  age_from (x ∷ xs) = by (same a (one x.0)) (age_from xs) ∙ ap (λ c. cond c (Some x.1) (lookup test xs)) (sym (pair x.0))
    where
      by : (c : Bool) → lookup (same b) (links xs) ≡ lookup test xs → lookup (same b) (map link (cond c (x ∷ filter (λ y. same a (one y.0)) xs) (filter (λ y. same a (one y.0)) xs))) ≡ cond (c && same b (oth x.0)) (Some x.1) (lookup test xs)
      by true h = ap (cond (same b (oth x.0)) (Some x.1)) h
      by false h = h

  -- what stands at one end of them has the age of its edge
  pub age_at_place : (xs : List (Edge × ℕ)) (i n : ℕ) → ((x : Edge × ℕ) (ys : List (Edge × ℕ)) → is_distinct (edges_of (x ∷ ys)) ≡ true → test x.0 ≡ true → lookup test ys ≡ Some n → ⊥) → is_distinct (edges_of xs) ≡ true → slice_get (links xs) i ≡ Some (b, n) → lookup test xs ≡ Some n
  age_at_place [] i n once d h = absurd (no h)
    where
      no : ◌≡◌ {A = Option (Addr × ℕ)} None (Some (b, n)) → ⊥
      no e = cc
  age_at_place (x ∷ xs) i n once d h = by (same a (one x.0)) refl i h (λ j k. age_at_place xs j n once (distinct_rest x xs d) k)
    where
      past : lookup test xs ≡ Some n → (c : Bool) → test x.0 ≡ c → cond c (Some x.1) (lookup test xs) ≡ Some n
      past k true e = absurd (once x xs d e k)
      past k false e = k

      by : (c : Bool) → same a (one x.0) ≡ c → (i : ℕ) → slice_get (map link (cond c (x ∷ filter (λ y. same a (one y.0)) xs) (filter (λ y. same a (one y.0)) xs))) i ≡ Some (b, n) → ((j : ℕ) → slice_get (links xs) j ≡ Some (b, n) → lookup test xs ≡ Some n) → lookup test (x ∷ xs) ≡ Some n
      by true e zero k more =
          let both : link x ≡ (b, n) = cc in
          let node : b ≡ oth x.0 = ap (λ (p : Addr × ℕ). p.0) (sym both) in
          let age : x.1 ≡ n = ap (λ (p : Addr × ℕ). p.1) both in
          ap (λ c. cond c (Some x.1) (lookup test xs)) (pair x.0 ∙ and_both (same a (one x.0)) (same b (oth x.0)) e (same-from b (oth x.0) node)) ∙ ap Some age
      by true e (suc i) k more = past (more i k) (test x.0) refl
      by false e i k more = past (more i k) (test x.0) refl

-- ---- fewer edges in a table

-- without the edge from s to t, of the age n
module _ (one : Edge × ℕ → Addr) (other : Edge × ℕ → Addr × ℕ) (keeps : (x : Edge × ℕ) → (other x).1 ≡ x.1) (aged : List (Edge × ℕ)) (s t end : Addr) (n : ℕ) (gone : without_age n aged ≡ without s t aged) (ends : (x : Edge × ℕ) → is_edge s t x.0 ≡ true → one x ≡ end) where
  list-elsewhere : (a : Addr) → (a ≡ end → ⊥) → listed_of one other (without s t aged) a ≡ listed_of one other aged a
  list-elsewhere a d =
      ap (map other) (filter-outside (λ x. same a (one x)) (λ x. not (is_edge s t x.0)) (λ x h. not_by (is_edge s t x.0) (λ k. d (same-is a (one x) h ∙ ends x k))) aged)

  list-here : (a : Addr) → listed_of one other (without s t aged) a ≡ without_age n (listed_of one other aged a)
  list-here a =
      ap (λ xs. listed_of one other xs a) (sym gone)
      ∙ filter-mapped other (λ x. same a (one x)) (λ x. not (eqb x.1 n)) (λ y. not (eqb y.1 n)) (λ x h. ap (λ m. not (eqb m n)) (sym (keeps x))) aged

  pub listed-removed : (lists : List (List (Addr × ℕ))) (r p : ℕ) → IsListed one other aged lists → length lists ≡ 2048 → IsPlace end r p → IsListed one other (without s t aged) (set lists p (without_age n (get_or lists p [])))
  listed-removed lists r p h long at =
      record {
        list_places = λ _. length-set lists p (without_age n (get_or lists p [])) ∙ long;
        listed = λ a row place k. elim (cases_eq place p) [
          | inl e ↦ let here : a ≡ end = place-is a end row r p (subst (IsPlace a row) e k) at in
              ap (λ m. get_or (set lists p (without_age n (get_or lists p []))) m []) e
              ∙ get_or-set_same lists p (without_age n (get_or lists p [])) [] (subst (λ m. p < m) (sym long) (place-below end r p at))
              ∙ ap (without_age n) (h.listed end r p at)
              ∙ sym (list-here end)
              ∙ ap (listed_of one other (without s t aged)) (sym here)
          | inr d ↦ get_or-set_other lists p place (without_age n (get_or lists p [])) [] d ∙ h.listed a row place k
              ∙ sym (list-elsewhere a (λ e. d (is-place a end row r place p k at e)))
        ];
      }

-- the lists get their places
pub list-made : {X Y : Type 0} (one : X → Addr) (other : X → Y) (edges : List X) (lists lists' : List (List Y)) → IsListed one other edges lists → length lists' ≡ 2048 → ReadsAs [] lists' lists → IsListed one other edges lists'
list-made one other edges lists lists' h long same = record { list_places = λ _. long; listed = λ a row place k. same place ∙ h.listed a row place k }

-- ---- both tables

abbrev pub onto : Edge × ℕ → Addr × ℕ
onto x = (x.0.target, x.1)

abbrev pub out_of : Edge × ℕ → Addr × ℕ
out_of x = (x.0.source, x.1)

abbrev pub from : Edge × ℕ → Addr
from x = x.0.source

abbrev pub into : Edge × ℕ → Addr
into x = x.0.target

pub pair_onward : (s t : Addr) (e : Edge) → is_edge s t e ≡ (same s e.source && same t e.target)
pair_onward s t e = refl

pub pair_back : (s t : Addr) (e : Edge) → is_edge s t e ≡ (same t e.target && same s e.source)
pair_back s t e = swap (same s e.source) (same t e.target)
  where
    swap : (b c : Bool) → (b && c) ≡ (c && b)
    swap b c = grind arith

placed-added : (edges : List Edge) (g : Edge) → HasPlace g.source → HasPlace g.target → ((e : Edge) → has_edge edges e.source e.target ≡ true → HasPlace e.source × HasPlace e.target) → (e : Edge) → has_edge (edges ++ g ∷ []) e.source e.target ≡ true → HasPlace e.source × HasPlace e.target
placed-added edges g from to h e there = elim (or_cases (has_edge edges e.source e.target) (is_edge e.source e.target g || false) (sym (list_any-append (is_edge e.source e.target) edges (g ∷ [])) ∙ there)) [
  | inl k ↦ h e k
  | inr k ↦ let is : g ≡ e = same_edge e.source e.target g (last k) in
      (subst (λ x. HasPlace x.source) is from, subst (λ x. HasPlace x.target) is to)
]
  where
    last : (is_edge e.source e.target g || false) ≡ true → is_edge e.source e.target g ≡ true
    last k = grind arith

-- where an edge is, the tables have their places
some_places : {X : Type 0} (aged : List (Edge × ℕ)) (s t : Addr) (n : ℕ) (xs : List X) → lookup (is_edge s t) aged ≡ Some n → 0 < length aged + length xs
some_places [] s t n xs h = absurd (no h)
  where
    no : ◌≡◌ {A = Option ℕ} None (Some n) → ⊥
    no e = cc
some_places (x ∷ aged) s t n xs h = omega arith

-- the nodes at the other ends
nodes_of : (one oth : Edge → Addr) (a : Addr) (aged : List (Edge × ℕ)) → map (λ (y : Addr × ℕ). y.0) (listed_of (λ (x : Edge × ℕ). one x.0) (λ (x : Edge × ℕ). (oth x.0, x.1)) aged a) ≡ map oth (filter (λ e. same a (one e)) (edges_of aged))
nodes_of one oth a [] = refl
nodes_of one oth a (x ∷ xs) = by (same a (one x.0)) (nodes_of one oth a xs)
  where
    by : (b : Bool) → map (λ (y : Addr × ℕ). y.0) (listed_of (λ (x : Edge × ℕ). one x.0) (λ (x : Edge × ℕ). (oth x.0, x.1)) xs a) ≡ map oth (filter (λ e. same a (one e)) (edges_of xs)) →
        map (λ (y : Addr × ℕ). y.0) (map (λ (x : Edge × ℕ). (oth x.0, x.1)) (cond b (x ∷ filter (λ x. same a (one x.0)) xs) (filter (λ x. same a (one x.0)) xs))) ≡ map oth (cond b (x.0 ∷ filter (λ e. same a (one e)) (edges_of xs)) (filter (λ e. same a (one e)) (edges_of xs)))
    by true h = ap (λ ys. oth x.0 ∷ ys) h
    by false h = h

none_last : (xs : List (Addr × ℕ)) → youngest xs ≡ None → xs ≡ []
none_last [] h = refl
none_last (x ∷ xs) h = absurd (no (get_or (x ∷ xs) (length (x ∷ xs) - 1) x) (sym (slice_get-get_or (x ∷ xs) (length (x ∷ xs) - 1) x (omega arith)) ∙ h))
  where
    no : (y : Addr × ℕ) → ◌≡◌ {A = Option (Addr × ℕ)} (Some y) None → ⊥
    no y e = cc

module _ (aged : List (Edge × ℕ)) (ts us : List (List (Addr × ℕ))) (next count : ℕ) (k : AreAged aged ts us next count) where
  pub nodes_onward : (s : Addr) (row place : ℕ) → IsPlace s row place → map (λ x. x.0) (get_or ts place []) ≡ targets_of (edges_of aged) s
  nodes_onward s row place at = ap (map (λ (x : Addr × ℕ). x.0)) (k.onward.listed s row place at) ∙ nodes_of (λ e. e.source) (λ e. e.target) s aged

  pub nodes_back : (t : Addr) (row place : ℕ) → IsPlace t row place → map (λ x. x.0) (get_or us place []) ≡ origins_of (edges_of aged) t
  nodes_back t row place at = ap (map (λ (x : Addr × ℕ). x.0)) (k.back.listed t row place at) ∙ nodes_of (λ e. e.target) (λ e. e.source) t aged

  pub found_back : (s t : Addr) (row place : ℕ) (slice : List (List (Addr × ℕ))) (o : Option ℕ) → IsPlace t row place → slice ≡ us → o ≡ lookup (same s) (get_or slice place []) → lookup (is_edge s t) aged ≡ o
  found_back s t row place slice o at e h =
      sym (h ∙ ap (λ xs. lookup (same s) (get_or xs place [])) e ∙ ap (lookup (same s)) (k.back.listed t row place at) ∙ age_from (λ e. e.target) (λ e. e.source) t s (is_edge s t) (pair_back s t) aged)

  once : (s t : Addr) (n : ℕ) (x : Edge × ℕ) (ys : List (Edge × ℕ)) → is_distinct (edges_of (x ∷ ys)) ≡ true → is_edge s t x.0 ≡ true → lookup (is_edge s t) ys ≡ Some n → ⊥
  once s t n x ys d h e = false≢true (sym (only_one x ys s t d h) ∙ there_by_age ys s t n e)

  pub last_onward : (s t : Addr) (n row place : ℕ) (slice : List (List (Addr × ℕ))) (o : Option (Addr × ℕ)) → IsPlace s row place → slice ≡ ts → o ≡ youngest (get_or slice place []) → o ≡ Some (t, n) → lookup (is_edge s t) aged ≡ Some n
  last_onward s t n row place slice o at e h is =
      age_at_place (λ e. e.source) (λ e. e.target) s t (is_edge s t) (pair_onward s t) aged (length (listed_of from onto aged s) - 1) n (once s t n) k.graph.distinct (sym (h ∙ ap (λ xs. youngest (get_or xs place [])) e ∙ ap youngest (k.onward.listed s row place at)) ∙ is)

  pub last_back : (s t : Addr) (n row place : ℕ) (slice : List (List (Addr × ℕ))) (o : Option (Addr × ℕ)) → IsPlace t row place → slice ≡ us → o ≡ youngest (get_or slice place []) → o ≡ Some (s, n) → lookup (is_edge s t) aged ≡ Some n
  last_back s t n row place slice o at e h is =
      age_at_place (λ e. e.target) (λ e. e.source) t s (is_edge s t) (pair_back s t) aged (length (listed_of into out_of aged t) - 1) n (once s t n) k.graph.distinct (sym (h ∙ ap (λ xs. youngest (get_or xs place [])) e ∙ ap youngest (k.back.listed t row place at)) ∙ is)

  pub no_onward : (s : Addr) (row place : ℕ) (slice : List (List (Addr × ℕ))) (o : Option (Addr × ℕ)) → IsPlace s row place → slice ≡ ts → o ≡ youngest (get_or slice place []) → o ≡ None → targets_of (edges_of aged) s ≡ []
  no_onward s row place slice o at e h is = sym (nodes_onward s row place at) ∙ ap (map (λ (x : Addr × ℕ). x.0)) (none_last (get_or ts place []) (sym (h ∙ ap (λ xs. youngest (get_or xs place [])) e) ∙ is))

  pub no_back : (t : Addr) (row place : ℕ) (slice : List (List (Addr × ℕ))) (o : Option (Addr × ℕ)) → IsPlace t row place → slice ≡ us → o ≡ youngest (get_or slice place []) → o ≡ None → origins_of (edges_of aged) t ≡ []
  no_back t row place slice o at e h is = sym (nodes_back t row place at) ∙ ap (map (λ (x : Addr × ℕ). x.0)) (none_last (get_or us place []) (sym (h ∙ ap (λ xs. youngest (get_or xs place [])) e) ∙ is))

  pub tables_made : (ts' us' : List (List (Addr × ℕ))) → length ts' ≡ 2048 → ReadsAs [] ts' ts → length us' ≡ 2048 → ReadsAs [] us' us → AreAged aged ts' us' next count
  tables_made ts' us' long same wide alike = record {
    graph = k.graph;
    onward = list-made from onto aged ts ts' k.onward long same;
    back = list-made into out_of aged us us' k.back wide alike;
    placed = k.placed;
    rising = k.rising;
    told = k.told;
    counted = k.counted;
  }

  pub targets_made : (ts' us' : List (List (Addr × ℕ))) → length ts' ≡ 2048 → ReadsAs [] ts' ts → us' ≡ us → AreAged aged ts' us' next count
  targets_made ts' us' long same e = record {
    graph = k.graph;
    onward = list-made from onto aged ts ts' k.onward long same;
    back = subst (IsListed into out_of aged) (sym e) k.back;
    placed = k.placed;
    rising = k.rising;
    told = k.told;
    counted = k.counted;
  }

  pub same_tables : (ts' us' : List (List (Addr × ℕ))) → ts' ≡ ts → us' ≡ us → AreAged aged ts' us' next count
  same_tables ts' us' e f = subst (λ xs. AreAged aged xs us' next count) (sym e) (subst (λ xs. AreAged aged ts xs next count) (sym f) k)

  -- where there is an edge, the tables have their places
  pub whole_by_count : (count ≡ 0 → ⊥) → (length ts ≡ 2048) × (length us ≡ 2048)
  whole_by_count some = (k.onward.list_places (omega (arith, k.counted, some)), k.back.list_places (omega (arith, k.counted, some)))

  pub none_by_count : count ≡ 0 → edges_of aged ≡ []
  none_by_count none = ap edges_of (nothing aged (omega (arith, k.counted, none)))
    where
      nothing : {X : Type 0} (xs : List X) → length xs ≡ 0 → xs ≡ []
      nothing [] e = refl
      nothing (x ∷ xs) e = absurd (omega arith)

  module _ (s t : Addr) (n : ℕ) (found : lookup (is_edge s t) aged ≡ Some n) where
    gone : (without_age n aged ≡ without s t aged) × (length (without s t aged) + 1 ≡ length aged)
    gone = gone_by_age 0 aged next s t n k.rising k.graph.distinct found

    targets_whole : length ts ≡ 2048
    targets_whole = k.onward.list_places (some_places aged s t n ts found)

    sources_whole : length us ≡ 2048
    sources_whole = k.back.list_places (some_places aged s t n us found)

    -- the tables have their places
    pub tables_whole : (slice slice' : List (List (Addr × ℕ))) → slice ≡ ts → slice' ≡ us → (length slice ≡ 2048) × (length slice' ≡ 2048)
    tables_whole slice slice' e f = (ap length e ∙ targets_whole, ap length f ∙ sources_whole)

    pub some_count : 0 < count
    some_count = omega (arith, k.counted, gone.1)

    -- the edge is gone from both tables
    pub unlinked : (ts' us' : List (List (Addr × ℕ))) (count' r p q u : ℕ) → IsPlace s r p → IsPlace t q u → ts' ≡ set ts p (without_age n (get_or ts p [])) → us' ≡ set us u (without_age n (get_or us u [])) → count' + 1 ≡ count → AreAged (without s t aged) ts' us' next count'
    unlinked ts' us' count' r p q u at to e f c =
        subst (λ xs. AreAged (without s t aged) xs us' next count') (sym e) (subst (λ xs. AreAged (without s t aged) (set ts p (without_age n (get_or ts p []))) xs next count') (sym f) (record {
          graph = subst IsGraph (sym (edges-without s t aged)) (graph-filter (λ g. not (is_edge s t g)) (edges_of aged) k.graph);
          onward = listed-removed from onto (λ x. refl) aged s t s n gone.0 (λ x h. ap (λ (g : Edge). g.source) (same_edge s t x.0 h)) ts r p k.onward targets_whole at;
          back = listed-removed into out_of (λ x. refl) aged s t t n gone.0 (λ x h. ap (λ (g : Edge). g.target) (same_edge s t x.0 h)) us q u k.back sources_whole to;
          placed = λ g h. k.placed g (list_any-filter (is_edge g.source g.target) (λ x. not (is_edge s t x)) (edges_of aged) (ap (λ es. has_edge es g.source g.target) (sym (edges-without s t aged)) ∙ h));
          rising = rising-filter (λ x. not (is_edge s t x.0)) 0 aged next k.rising;
          told = all-filter (λ x. TellsPlace x.1 x.0.source) (λ x. not (is_edge s t x.0)) aged k.told;
          counted = omega (arith, k.counted, gone.1, c);
        }))

  -- the sources at a place, each with an age that tells its place
  pub told_back : (t : Addr) (row place : ℕ) (slice : List (List (Addr × ℕ))) → IsPlace t row place → slice ≡ us → AllByRecursion (λ x. TellsPlace x.1 x.0) (get_or slice place [])
  told_back t row place slice at e =
      subst (AllByRecursion (λ (x : Addr × ℕ). TellsPlace x.1 x.0)) (sym (ap (λ xs. get_or xs place []) e ∙ k.back.listed t row place at))
      (all-map (λ (x : Edge × ℕ). TellsPlace x.1 x.0.source) (λ (x : Addr × ℕ). TellsPlace x.1 x.0) out_of (λ x h. h) (filter (λ x. same t x.0.target) aged)
      (all-filter (λ x. TellsPlace x.1 x.0.source) (λ x. same t x.0.target) aged k.told))

  -- all ages in the tables are below the next
  pub young_onward : (a : Addr) (row place : ℕ) → IsPlace a row place → IsRising 0 (get_or ts place []) next
  young_onward a row place at = subst (λ xs. IsRising 0 xs next) (sym (k.onward.listed a row place at)) (rising-map (λ g. g.target) 0 (filter (λ x. same a x.0.source) aged) next (rising-filter (λ x. same a x.0.source) 0 aged next k.rising))

  pub young_back : (a : Addr) (row place : ℕ) → IsPlace a row place → IsRising 0 (get_or us place []) next
  young_back a row place at = subst (λ xs. IsRising 0 xs next) (sym (k.back.listed a row place at)) (rising-map (λ g. g.source) 0 (filter (λ x. same a x.0.target) aged) next (rising-filter (λ x. same a x.0.target) 0 aged next k.rising))

  pub count_low : count ≤ next
  count_low = omega (arith, k.counted, length-rising 0 aged next k.rising)

  -- the edge is in both tables
  pub linked : (ts' us' : List (List (Addr × ℕ))) (s t : Addr) (age next' count' r p q u : ℕ) → length ts ≡ 2048 → length us ≡ 2048 → has_edge (edges_of aged) s t ≡ false → sources_of (edges_of aged) t < most_sources → makes_cycle (edges_of aged) s t ≡ false → IsPlace s r p → IsPlace t q u →
      ts' ≡ set ts p (get_or ts p [] ++ (t, age) ∷ []) → us' ≡ set us u (get_or us u [] ++ (s, age) ∷ []) → TellsPlace age s → next ≤ age → age < next' → count' ≡ count + 1 → AreAged (aged ++ (edge s t, age) ∷ []) ts' us' next' count'
  linked ts' us' s t age next' count' r p q u long wide fresh room clear at to e f tells low high one =
      let edges : edges_of (aged ++ (edge s t, age) ∷ []) ≡ edges_of aged ++ edge s t ∷ [] = map-append (λ (x : Edge × ℕ). x.0) aged ((edge s t, age) ∷ []) in
      record {
        graph = subst IsGraph (sym edges) (graph-added (edges_of aged) s t k.graph fresh room clear);
        onward = subst (IsListed from onto (aged ++ (edge s t, age) ∷ [])) (sym e) (listed-added from onto aged (edge s t, age) ts r p k.onward long at);
        back = subst (IsListed into out_of (aged ++ (edge s t, age) ∷ [])) (sym f) (listed-added into out_of aged (edge s t, age) us q u k.back wide to);
        placed = λ g h. placed-added (edges_of aged) (edge s t) (r, p, at) (q, u, to) k.placed g (ap (λ es. has_edge es g.source g.target) (sym edges) ∙ h);
        rising = rising-last 0 aged age next' (edge s t) high (to_more 0 aged next age low k.rising);
        told = all-more (λ x. TellsPlace x.1 x.0.source) aged (edge s t, age) k.told tells;
        counted = omega (arith, one, k.counted, length-append aged ((edge s t, age) ∷ []));
      }

-- ---- no edges

no_chain : (a b : Addr) (es : List Edge) → are_edges [] es ≡ true → is_chain a b es ≡ true → ⊥
no_chain a b [] t h = false≢true h
no_chain a b (e ∷ es) t h = false≢true (both_left false (are_edges [] es) t)

empty_graph : IsGraph []
unfolding most_sources
empty_graph = record { distinct = refl; few = λ a. omega arith; acyclic = λ a r. no_chain a a r.0 r.1 r.2 }

no_list : {X Y : Type 0} (one : X → Addr) (other : X → Y) → IsListed one other [] []
no_list one other = record { list_places = λ h. absurd (omega arith); listed = λ a row place k. refl }

pub none_aged : (ts us : List (List (Addr × ℕ))) → ts ≡ [] → us ≡ [] → AreAged [] ts us 0 0
none_aged ts us t u =
    subst (λ xs. AreAged [] xs us 0 0) (sym t) (subst (λ xs. AreAged [] [] xs 0 0) (sym u) (record {
      graph = empty_graph;
      onward = no_list from onto;
      back = no_list into out_of;
      placed = λ e h. absurd (false≢true h);
      rising = omega arith;
      told = tt;
      counted = refl;
    }))
