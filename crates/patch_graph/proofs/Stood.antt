-- Where the edge of an age stands.
use Rattle.std.proofs.Common.{◌≡◌, ◌≤◌, ◌<◌, ℕ, zero, suc, ◌+◌, Bool, true, false, not, cond, eqb, ltb, ◌&&◌, List, [], ◌∷◌, map, length, get_or, Option, Some, None, refl, ap, sym, subst, ◌∙◌, arith}
use Rattle.std.specs.Prelude.{IsSome}
use Rattle.std.specs.List.{filter, position, position_or_len, slice_get}
use Rattle.std.specs.Map.{lookup}
use Rattle.std.proofs.lemmas.Bool.Decides.{nat_tests}
use Rattle.std.proofs.lemmas.List.{length-map, get_or-map}
use Rattle.node_table.specs.Addresses.{same}
use Rattle.node_table.specs.Kept.{IsPlace}
use Rattle.node_table.specs.declared.number.Addr.{Addr}
use Rattle.patch_graph.specs.Aged.{IsRising, AreAged, aged_edges, edges_of}
use Rattle.patch_graph.specs.Edges.{is_edge}
use Rattle.patch_graph.specs.Index.{targets_of}
use Rattle.patch_graph.specs.declared.edge.Edge.{Edge}
use Rattle.patch_graph.proofs.Same.{same-is}
use Rattle.patch_graph.proofs.Linked.{at_least}
use Rattle.patch_graph.proofs.Indexed.{listed_of, from, onto, age_above}

some-is : {X : Type 0} (x y : X) → ◌≡◌ {A = Option X} (Some x) (Some y) → x ≡ y
some-is x y e = cc

eqb-refl : (n : ℕ) → eqb n n ≡ true
eqb-refl n = grind (arith, nat_tests)

eqb-of : (m n : ℕ) → m ≡ n → eqb m n ≡ true
eqb-of m n e = ap (λ x. eqb x n) e ∙ eqb-refl n

eqb-less : (m n : ℕ) → m + 1 ≤ n → eqb m n ≡ false
eqb-less m n h = grind (arith, nat_tests)

-- what is found at a place within is the position
within_list : {X : Type 0} (p : X → Bool) (xs : List X) (i : ℕ) → position_or_len p xs ≡ i → i < length xs → position p xs ≡ Some i
within_list p xs i e l =
    ap (λ n. cond (ltb n (length xs)) (Some n) None) e
    ∙ ap (λ b. cond b (Some i) None) (below i (length xs) l)
  where
    below : (m n : ℕ) → m < n → ltb m n ≡ true
    below m n h = grind (arith, nat_tests)

module _ {X : Type 0} (age : ℕ) where
  here : (x : X × ℕ) (xs : List (X × ℕ)) → eqb x.1 age ≡ true → position_or_len (λ y. eqb y.1 age) (x ∷ xs) ≡ 0
  here x xs e = ap (λ b. cond (not b) (1 + position_or_len (λ y. eqb y.1 age) xs) 0) e

  past : (x : X × ℕ) (xs : List (X × ℕ)) (i : ℕ) → eqb x.1 age ≡ false → position_or_len (λ y. eqb y.1 age) xs ≡ i → position_or_len (λ y. eqb y.1 age) (x ∷ xs) ≡ suc i
  past x xs i e at = ap (λ b. cond (not b) (1 + position_or_len (λ y. eqb y.1 age) xs) 0) e ∙ omega (arith, at)

module _ {X : Type 0} where
  -- where ages rise, what has the age is its position
  pub age_position : (k : ℕ) (xs : List (X × ℕ)) (next i age : ℕ) (d : X × ℕ) → IsRising k xs next → i < length xs → (get_or xs i d).1 ≡ age → position (λ x. eqb x.1 age) xs ≡ Some i
  age_position k xs next i age d h l e = within_list (λ x. eqb x.1 age) xs i (at k xs i h l e) l
    where
      at : (k : ℕ) (xs : List (X × ℕ)) (i : ℕ) → IsRising k xs next → i < length xs → (get_or xs i d).1 ≡ age → position_or_len (λ x. eqb x.1 age) xs ≡ i
      at k [] i h l e = absurd (omega arith)
      at k (x ∷ xs) zero h l e = here age x xs (eqb-of x.1 age e)
      at k (x ∷ xs) (suc i) h l e =
          let rest : x.1 + 1 ≤ (get_or xs i d).1 = at_least (x.1 + 1) xs next i d h.1 (omega arith) in
          past age x xs i (eqb-less x.1 age (omega (arith, rest, e))) (at (x.1 + 1) xs i h.1 (omega arith) e)

  -- an age that none has is at no position
  pub no_position : (xs : List (X × ℕ)) (age : ℕ) → ((i : ℕ) (d : X × ℕ) → i < length xs → (get_or xs i d).1 ≡ age → ⊥) → position (λ x. eqb x.1 age) xs ≡ None
  no_position xs age h =
      ap (λ n. cond (ltb n (length xs)) (Some n) None) (all xs h)
      ∙ ap (λ b. cond b (Some (length xs)) None) (not_below (length xs))
    where
      not_below : (n : ℕ) → ltb n n ≡ false
      not_below n = grind (arith, nat_tests)

      all : (xs : List (X × ℕ)) → ((i : ℕ) (d : X × ℕ) → i < length xs → (get_or xs i d).1 ≡ age → ⊥) → position_or_len (λ x. eqb x.1 age) xs ≡ length xs
      all [] h = refl
      all (x ∷ xs) h = past age x xs (length xs) (other (λ e. h 0 x (omega arith) e)) (all xs (λ i d l e. h (suc i) d (omega arith) e))
        where
          other : (x.1 ≡ age → ⊥) → eqb x.1 age ≡ false
          other f = grind (arith, nat_tests)

  -- the same by the list of the ages alone
  pub link_position : (xs : List (X × ℕ)) (i age next : ℕ) → IsRising 0 xs next → i < length (map (λ x. x.1) xs) → get_or (map (λ x. x.1) xs) i 0 ≡ age → position (λ x. eqb x.1 age) xs ≡ Some i
  link_position [] i age next h l e = absurd (omega arith)
  link_position (x ∷ xs) i age next h l e =
      let within : i < length (x ∷ xs) = omega (arith, length-map (x ∷ xs) (λ (y : X × ℕ). y.1)) in
      age_position 0 (x ∷ xs) next i age x h within (sym (get_or-map (λ (y : X × ℕ). y.1) (x ∷ xs) i x 0 within) ∙ e)

  pub no_link_position : (xs : List (X × ℕ)) (age : ℕ) → ((i : ℕ) → i < length (map (λ x. x.1) xs) → get_or (map (λ x. x.1) xs) i 0 ≡ age → ⊥) → position (λ x. eqb x.1 age) xs ≡ None
  no_link_position xs age h = no_position xs age (λ i d l e. h i (omega (arith, length-map xs (λ (y : X × ℕ). y.1))) (get_or-map (λ (y : X × ℕ). y.1) xs i d 0 l ∙ e))

-- Where an edge stands among those of its source, by its age, its target stands among the targets.
record Stands (xs : List (Edge × ℕ)) (s t : Addr) (n i : ℕ) : Type 0 where
  at : position_or_len (λ y. eqb y.1 n) (listed_of from onto xs s) ≡ i
  within : i < length (listed_of from onto xs s)
  target : slice_get (targets_of (edges_of xs) s) i ≡ Some t

stands_among : (k : ℕ) (xs : List (Edge × ℕ)) (next : ℕ) (s t : Addr) (n : ℕ) → IsRising k xs next → lookup (is_edge s t) xs ≡ Some n → (i : ℕ) × Stands xs s t n i
stands_among k [] next s t n h e = absurd (no e)
  where
    no : ◌≡◌ {A = Option ℕ} None (Some n) → ⊥
    no e = cc
stands_among k (x ∷ xs) next s t n h e = let held : (i : ℕ) × Held (same s x.0.source) i = by (same s x.0.source) (same t x.0.target) refl e (λ f. stands_among (x.1 + 1) xs next s t n h.1 f) (λ f. age_above (x.1 + 1) xs next s t n h.1 f) in
    (held.0, record { at = held.1.0; within = held.1.1; target = held.1.2 })
  where
    rest : List (Edge × ℕ)
    rest = filter (λ y. same s y.0.source) xs

    edges : List Edge
    edges = filter (λ e. same s e.source) (edges_of xs)

    Held : Bool → ℕ → Type 0
    Held c i =
        (position_or_len (λ y. eqb y.1 n) (map onto (cond c (x ∷ rest) rest)) ≡ i)
        × (i < length (map onto (cond c (x ∷ rest) rest)))
        × (slice_get (map (λ e. e.target) (cond c (x.0 ∷ edges) edges)) i ≡ Some t)

    by : (c d : Bool) → same t x.0.target ≡ d → cond (c && d) (Some x.1) (lookup (is_edge s t) xs) ≡ Some n → (lookup (is_edge s t) xs ≡ Some n → (i : ℕ) × Stands xs s t n i) → (lookup (is_edge s t) xs ≡ Some n → x.1 + 1 ≤ n) → (i : ℕ) × Held c i
    by true true e f more low =
        let age : x.1 ≡ n = cc in
        (0, (here n (onto x) (map onto rest) (eqb-of x.1 n age), omega arith, ap Some (sym (same-is t x.0.target e))))
    by true false e f more low =
        let found : (i : ℕ) × Stands xs s t n i = more f in
        (suc found.0, (past n (onto x) (map onto rest) found.0 (eqb-less x.1 n (low f)) found.1.at, omega (arith, found.1.within), found.1.target))
    by false d e f more low = let found : (i : ℕ) × Stands xs s t n i = more f in (found.0, (found.1.at, found.1.within, found.1.target))

-- The position of the age of an edge among those of its source, by the table: there is one, and the target stands there
-- among the targets.
module _ (ts us ls : List (List (Addr × ℕ))) (next count : ℕ) (edges : List Edge) (s t : Addr) (n r p : ℕ) (place : Option ℕ) (aged : AreAged (aged_edges ts us) ts us next count)
    (its : lookup (is_edge s t) (aged_edges ts us) ≡ Some n) (at : IsPlace s r p) (table : ls ≡ ts) (view : edges_of (aged_edges ts us) ≡ edges) (is : place ≡ position (λ x. eqb x.1 n) (get_or ls p [])) where
  found : (i : ℕ) × Stands (aged_edges ts us) s t n i
  found = stands_among 0 (aged_edges ts us) next s t n aged.rising its

  stands : place ≡ Some found.0
  stands =
      is ∙ ap (λ xs. position (λ x. eqb x.1 n) (get_or xs p [])) table ∙ ap (position (λ x. eqb x.1 n)) (aged.onward.listed s r p at)
      ∙ within_list (λ x. eqb x.1 n) (listed_of from onto (aged_edges ts us) s) found.0 found.1.at found.1.within

  pub some_place : IsSome place
  some_place = subst IsSome (sym stands) refl

  pub target_there : (i : ℕ) → place ≡ Some i → slice_get (targets_of edges s) i ≡ Some t
  target_there i e =
      ap (λ j. slice_get (targets_of edges s) j) (some-is i found.0 (sym e ∙ stands)) ∙ ap (λ es. slice_get (targets_of es s) found.0) (sym view) ∙ found.1.target
