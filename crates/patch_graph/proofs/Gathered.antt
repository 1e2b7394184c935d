-- What stands in a table, by age, and the edges that two tables have.
use Rattle.std.proofs.Common.{◌≡◌, ◌≤◌, ◌<◌, ◌⊎◌, inl, inr, ℕ, zero, suc, ◌+◌, ◌-◌, ◌*◌, ◌/◌, ◌%◌, Bool, true, false, cond, eqb, ltb, ◌&&◌, ◌||◌, List, [], ◌∷◌, ◌++◌, map, length, get_or, set, Some, refl, ap, sym, subst, ◌∙◌, arith}
use Rattle.std.specs.List.{filter, sum_by, zip}
use Rattle.std.specs.Map.{lookup}
use Rattle.std.specs.List.Sorted.{IsNonDecreasingBy, IsPermutation}
use Rattle.std.proofs.lemmas.Bool.Decides.{nat_tests}
use Rattle.std.proofs.lemmas.Bool.{cases_eq, cases_lt, eqb-true}
use Rattle.std.proofs.lemmas.List.{length-map, map-append}
use Rattle.std.proofs.lemmas.List.Sums.{sum_by-cons, sum_by-append}
use Rattle.std.proofs.lemmas.List.Sorted.{sum_by-IsPermutation}
use Rattle.node_table.specs.Addresses.{same}
use Rattle.node_table.specs.Kept.{IsPlace, place_in}
use Rattle.node_table.specs.declared.number.Addr.{Addr}
use Rattle.node_table.specs.declared.number.Node.TheVariants.{Port, Filter}
use Rattle.patch_graph.specs.declared.edge.Edge.{Edge}
use Rattle.patch_graph.specs.Edges.{edge, is_edge, has_edge, without_edge, sources_of, most_sources}
use Rattle.patch_graph.specs.Chains.{makes_cycle}
use Rattle.patch_graph.specs.Index.{HasPlace, IsListed}
use Rattle.patch_graph.specs.Aged.{IsRising, TellsPlace, put_by_age, by_age, all_of, aged_edges, edges_of, AreAged}
use Rattle.patch_graph.proofs.Linked.{rising-map, without_age}
use Rattle.patch_graph.proofs.Indexed.{onto, out_of, without, edges-without, some_count, unlinked, linked}
use Rattle.patch_graph.proofs.Lists.{both_left, both_right, and_both, both_ways}
use Rattle.patch_graph.proofs.Same.{same-is, same-refl, same-from, place-is, is-place, place-below}

-- P holds of each
abbrev Each : {X : Type 0} → (X → Type 0) → List X → Type 0
Each P [] = Unit {0}
Each P (x ∷ xs) = P x × Each P xs

each-of : {X : Type 0} (P Q : X → Type 0) → ((x : X) → P x → Q x) → (xs : List X) → Each P xs → Each Q xs
each-of P Q f [] h = tt
each-of P Q f (x ∷ xs) h = (f x h.0, each-of P Q f xs h.1)

-- ---- in order of age

abbrev Sorted : List (Addr × ℕ) → Type 0
Sorted [] = Unit {0}
Sorted (x ∷ xs) = Each (λ z. x.1 ≤ z.1) xs × Sorted xs

sorted : (xs : List (Addr × ℕ)) → IsNonDecreasingBy (λ x. x.1) xs → Sorted xs
sorted [] h = tt
sorted (x ∷ xs) h = (from xs (λ k d lt. h 0 (suc k) d (omega arith) (omega arith)), sorted xs (λ i j d le lt. h (suc i) (suc j) d (omega arith) (omega arith)))
  where
    from : (ys : List (Addr × ℕ)) → ((k : ℕ) (d : Addr × ℕ) → k < length ys → x.1 ≤ (get_or ys k d).1) → Each (λ z. x.1 ≤ z.1) ys
    from [] g = tt
    from (y ∷ ys) g = (g 0 y (omega arith), from ys (λ k d lt. g (suc k) d (omega arith)))

put-each : (P : Addr × ℕ → Type 0) (x : Addr × ℕ) (ys : List (Addr × ℕ)) → P x → Each P ys → Each P (put_by_age x ys)
put-each P x [] h k = (h, tt)
put-each P x (y ∷ ys) h k = by (ltb x.1 y.1) (put-each P x ys h k.1)
  where
    by : (b : Bool) → Each P (put_by_age x ys) → Each P (cond b (x ∷ y ∷ ys) (y ∷ put_by_age x ys))
    by true more = (h, k)
    by false more = (k.0, more)

put-sorted : (x : Addr × ℕ) (ys : List (Addr × ℕ)) → Sorted ys → Sorted (put_by_age x ys)
put-sorted x [] h = (tt, tt)
put-sorted x (y ∷ ys) h = by (ltb x.1 y.1) refl (put-sorted x ys h.1)
  where
    by : (b : Bool) → ltb x.1 y.1 ≡ b → Sorted (put_by_age x ys) → Sorted (cond b (x ∷ y ∷ ys) (y ∷ put_by_age x ys))
    by true e more = let l : x.1 < y.1 = grind (arith, nat_tests) in
        ((omega (arith, l), each-of (λ z. y.1 ≤ z.1) (λ z. x.1 ≤ z.1) (λ z m. omega (arith, l, m)) ys h.0), h)
    by false e more = let l : y.1 ≤ x.1 = grind (arith, nat_tests) in
        (put-each (λ z. y.1 ≤ z.1) x ys l h.0, more)

put-sum : (w : Addr × ℕ → ℕ) (x : Addr × ℕ) (ys : List (Addr × ℕ)) → sum_by w (put_by_age x ys) ≡ w x + sum_by w ys
put-sum w x [] = sum_by-cons w x []
put-sum w x (y ∷ ys) = by (ltb x.1 y.1) (put-sum w x ys)
  where
    by : (b : Bool) → sum_by w (put_by_age x ys) ≡ w x + sum_by w ys → sum_by w (cond b (x ∷ y ∷ ys) (y ∷ put_by_age x ys)) ≡ w x + sum_by w (y ∷ ys)
    by true more = sum_by-cons w x (y ∷ ys)
    by false more = omega (arith, sum_by-cons w y (put_by_age x ys), sum_by-cons w y ys, more)

by_age-sorted : (xs : List (Addr × ℕ)) → Sorted (by_age xs)
unfolding by_age
by_age-sorted [] = tt
by_age-sorted (x ∷ xs) = put-sorted x (by_age xs) (by_age-sorted xs)

by_age-sum : (w : Addr × ℕ → ℕ) (xs : List (Addr × ℕ)) → sum_by w (by_age xs) ≡ sum_by w xs
unfolding by_age
by_age-sum w [] = refl
by_age-sum w (x ∷ xs) = put-sum w x (by_age xs) ∙ ap (λ n. w x + n) (by_age-sum w xs) ∙ sym (sum_by-cons w x xs)

-- one that counts is there
counted : (p : Addr × ℕ → Bool) (P : Addr × ℕ → Type 0) (xs : List (Addr × ℕ)) → Each P xs → 1 ≤ sum_by (λ z. cond (p z) 1 0) xs → (z : Addr × ℕ) × (p z ≡ true) × P z
counted p P [] h l = absurd (omega arith)
counted p P (x ∷ xs) h l = by (p x) refl (counted p P xs h.1)
  where
    by : (b : Bool) → p x ≡ b → (1 ≤ sum_by (λ z. cond (p z) 1 0) xs → (z : Addr × ℕ) × (p z ≡ true) × P z) → (z : Addr × ℕ) × (p z ≡ true) × P z
    by true e more = (x, e, h.0)
    by false e more =
        let none : ◌≡◌ {A = ℕ} (cond (p x) 1 0) 0 = ap (λ b. cond b 1 0) e in
        let all : sum_by (λ z. cond (p z) 1 0) (x ∷ xs) ≡ cond (p x) 1 0 + sum_by (λ z. cond (p z) 1 0) xs = sum_by-cons (λ z. cond (p z) 1 0) x xs in
        more (omega (arith, l, none, all))

abbrev is_link : Addr × ℕ → Addr × ℕ → Bool
is_link x z = eqb z.1 x.1 && same z.0 x.0

link-refl : (x : Addr × ℕ) → is_link x x ≡ true
link-refl x = and_both (eqb x.1 x.1) (same x.0 x.0) (grind (arith, nat_tests)) (same-refl x.0)

link-is : (x z : Addr × ℕ) → is_link x z ≡ true → z ≡ x
link-is x z h =
    let node : z.0 ≡ x.0 = same-is z.0 x.0 (both_right (eqb z.1 x.1) (same z.0 x.0) h) in
    let age : z.1 ≡ x.1 = eqb-true z.1 x.1 (both_left (eqb z.1 x.1) (same z.0 x.0) h) in
    λ j. (node j, age j)

here_counts : (x : Addr × ℕ) (xs : List (Addr × ℕ)) → 1 ≤ sum_by (λ z. cond (is_link x z) 1 0) (x ∷ xs)
here_counts x xs =
    let one : ◌≡◌ {A = ℕ} (cond (is_link x x) 1 0) 1 = ap (λ b. cond b 1 0) (link-refl x) in
    omega (arith, one, sum_by-cons (λ z. cond (is_link x z) 1 0) x xs)

above : (k : ℕ) (xs : List (Addr × ℕ)) (next : ℕ) → IsRising k xs next → Each (λ z. k ≤ z.1) xs
above k [] next h = tt
above k (x ∷ xs) next h = (h.0, each-of (λ z. x.1 + 1 ≤ z.1) (λ z. k ≤ z.1) (λ z m. omega (arith, m, h.0)) xs (above (x.1 + 1) xs next h.1))

-- two lists in order of age that hold the same are one, where no two ages are one
one_order : (k : ℕ) (xs ys : List (Addr × ℕ)) (next : ℕ) → Sorted xs → IsRising k ys next → ((w : Addr × ℕ → ℕ) → sum_by w xs ≡ sum_by w ys) → xs ≡ ys
one_order k [] [] next s r e = refl
one_order k [] (y ∷ ys) next s r e = absurd (omega (arith, e (λ z. 1), sum_by-cons (λ z. 1) y ys))
one_order k (x ∷ xs) [] next s r e = absurd (omega (arith, e (λ z. 1), sum_by-cons (λ z. 1) x xs))
one_order k (x ∷ xs) (y ∷ ys) next s r e = λ j. heads j ∷ one_order (y.1 + 1) xs ys next s.1 r.1 rest j
  where
    y_there : (z : Addr × ℕ) × (is_link y z ≡ true) × (x.1 ≤ z.1)
    y_there = counted (is_link y) (λ z. x.1 ≤ z.1) (x ∷ xs) (omega arith, s.0) (subst (λ n. 1 ≤ n) (sym (e (λ z. cond (is_link y z) 1 0))) (here_counts y ys))

    low : x.1 ≤ y.1
    low = subst (λ (z : Addr × ℕ). x.1 ≤ z.1) (link-is y y_there.0 y_there.1) y_there.2

    x_there : (z : Addr × ℕ) × (is_link x z ≡ true) × ((z ≡ y) ⊎ (y.1 + 1 ≤ z.1))
    x_there = counted (is_link x) (λ z. (z ≡ y) ⊎ (y.1 + 1 ≤ z.1)) (y ∷ ys) (inl refl, each-of (λ z. y.1 + 1 ≤ z.1) (λ z. (z ≡ y) ⊎ (y.1 + 1 ≤ z.1)) (λ z m. inr m) ys (above (y.1 + 1) ys next r.1)) (subst (λ n. 1 ≤ n) (e (λ z. cond (is_link x z) 1 0)) (here_counts x xs))

    heads : x ≡ y
    heads = by x_there.2
      where
        by : (x_there.0 ≡ y) ⊎ (y.1 + 1 ≤ x_there.0.1) → x ≡ y
        by (inl f) = sym (link-is x x_there.0 x_there.1) ∙ f
        by (inr l) = let f : x_there.0.1 ≡ x.1 = ap (λ (z : Addr × ℕ). z.1) (link-is x x_there.0 x_there.1) in absurd (omega (arith, l, f, low))

    rest : (w : Addr × ℕ → ℕ) → sum_by w xs ≡ sum_by w ys
    rest w = let f : w x ≡ w y = ap w heads in omega (arith, f, e w, sum_by-cons w x xs, sum_by-cons w y ys)

-- ---- what all places of a table hold

-- the number of the place of an address
abbrev number : Addr → ℕ
number a = (a.client - 128) * 32 + place_in a.node

number_is : (a : Addr) (r p : ℕ) → IsPlace a r p → number a ≡ p
number_is a r p h = let row : a.client - 128 ≡ r = omega (arith, h.client) in ap (λ n. n * 32 + place_in a.node) row ∙ sym h.is

abbrev HasNumber : ℕ → Type 0
HasNumber i = (a : Addr) × (row : ℕ) × IsPlace a row i

-- the address of a place
address : (i : ℕ) → i < 2048 → HasNumber i
address i l = by (cases_lt (i % 32) 16)
  where
    by : (i % 32 < 16) ⊎ (16 ≤ i % 32) → HasNumber i
    by (inl m) = (record { client = 128 + i / 32; node = Port (i % 32) }, i / 32, record { client = refl; below = omega (arith, l); small = m; is = omega arith })
    by (inr m) = (record { client = 128 + i / 32; node = Filter (i % 32 - 16) }, i / 32, record { client = refl; below = omega (arith, l); small = omega arith; is = omega (arith, m) })

differs : (m n : ℕ) → (m ≡ n → ⊥) → eqb m n ≡ false
differs m n h = grind (arith, nat_tests)

agrees : (m n : ℕ) → m ≡ n → eqb m n ≡ true
agrees m n h = grind (arith, nat_tests)

-- v, if the place k is one of the n from `base` on
unfoldable part : ℕ → ℕ → ℕ → ℕ → ℕ
part zero base k v = 0
part (suc n) base k v = cond (eqb k base) v 0 + part n (suc base) k v

part_out : (n base k v : ℕ) → k < base → part n base k v ≡ 0
unfolding part
part_out zero base k v l = refl
part_out (suc n) base k v l =
    let none : cond (eqb k base) v 0 ≡ 0 = ap (λ b. cond b v 0) (differs k base (λ e. omega (arith, e, l))) in
    omega (arith, none, part_out n (suc base) k v (omega (arith, l)))

part_in : (n base k v : ℕ) → base ≤ k → k < base + n → part n base k v ≡ v
unfolding part
part_in zero base k v l m = absurd (omega (arith, l, m))
part_in (suc n) base k v l m = elim (cases_eq k base) [
  | inl e ↦ let all : cond (eqb k base) v 0 ≡ v = ap (λ b. cond b v 0) (agrees k base e) in omega (arith, all, part_out n (suc base) k v (omega (arith, e)))
  | inr d ↦ let none : cond (eqb k base) v 0 ≡ 0 = ap (λ b. cond b v 0) (differs k base d) in omega (arith, none, part_in n (suc base) k v (omega (arith, l, d)) (omega (arith, m)))
]

sum_by-both : {X : Type 0} (f g : X → ℕ) (xs : List X) → sum_by (λ x. f x + g x) xs ≡ sum_by f xs + sum_by g xs
sum_by-both f g [] = refl
sum_by-both f g (x ∷ xs) = omega (arith, sum_by-both f g xs, sum_by-cons (λ x. f x + g x) x xs, sum_by-cons f x xs, sum_by-cons g x xs)

sum_by-none : {X : Type 0} (xs : List X) → sum_by (λ (x : X). 0) xs ≡ 0
sum_by-none [] = refl
sum_by-none {X = X} (x ∷ xs) = omega (arith, sum_by-cons (λ (y : X). 0) x xs, sum_by-none xs)

module _ {X : Type 0} (one : X → Addr) (other : X → Addr × ℕ) (w : Addr × ℕ → ℕ) where
  sum_by-place : (p : ℕ) (xs : List X) → sum_by w (map other (filter (λ x. eqb (number (one x)) p) xs)) ≡ sum_by (λ x. cond (eqb (number (one x)) p) (w (other x)) 0) xs
  sum_by-place p [] = refl
  sum_by-place p (x ∷ xs) = by (eqb (number (one x)) p) (sum_by-place p xs) ∙ sym (sum_by-cons (λ x. cond (eqb (number (one x)) p) (w (other x)) 0) x xs)
    where
      by : (b : Bool) → sum_by w (map other (filter (λ x. eqb (number (one x)) p) xs)) ≡ sum_by (λ x. cond (eqb (number (one x)) p) (w (other x)) 0) xs →
          sum_by w (map other (cond b (x ∷ filter (λ x. eqb (number (one x)) p) xs) (filter (λ x. eqb (number (one x)) p) xs))) ≡ cond b (w (other x)) 0 + sum_by (λ x. cond (eqb (number (one x)) p) (w (other x)) 0) xs
      by true h = sum_by-cons w (other x) (map other (filter (λ x. eqb (number (one x)) p) xs)) ∙ ap (λ n. w (other x) + n) h
      by false h = omega (arith, h)

  gathered : (xs : List X) (lists : List (List (Addr × ℕ))) (base : ℕ) → ((i : ℕ) → i < length lists → get_or lists i [] ≡ map other (filter (λ x. eqb (number (one x)) (base + i)) xs)) → sum_by w (all_of lists) ≡ sum_by (λ x. part (length lists) base (number (one x)) (w (other x))) xs
  unfolding part
  gathered xs [] base h = sym (sum_by-none xs)
  gathered xs (l ∷ ls) base h =
      let here : l ≡ map other (filter (λ x. eqb (number (one x)) base) xs) = h 0 (omega arith) ∙ ap (λ n. map other (filter (λ x. eqb (number (one x)) n) xs)) (plus_zero base) in
      sum_by-append w l (all_of ls)
      ∙ (λ j. (ap (sum_by w) here ∙ sum_by-place base xs) j + gathered xs ls (suc base) (λ i m. h (suc i) (omega (arith, m)) ∙ ap (λ n. map other (filter (λ x. eqb (number (one x)) n) xs)) (plus_suc base i)) j)
      ∙ sym (sum_by-both (λ x. cond (eqb (number (one x)) base) (w (other x)) 0) (λ x. part (length ls) (suc base) (number (one x)) (w (other x))) xs)
    where
      plus_zero : (b : ℕ) → b + 0 ≡ b
      plus_zero b = omega arith

      plus_suc : (b i : ℕ) → b + suc i ≡ suc b + i
      plus_suc b i = omega arith

  all_parts : (xs : List X) → Each (λ x. HasPlace (one x)) xs → sum_by (λ x. part 2048 0 (number (one x)) (w (other x))) xs ≡ sum_by w (map other xs)
  all_parts [] h = refl
  all_parts (x ∷ xs) h =
      let at : number (one x) ≡ h.0.1 = number_is (one x) h.0.0 h.0.1 h.0.2 in
      let low : h.0.1 < 2048 = place-below (one x) h.0.0 h.0.1 h.0.2 in
      let this : part 2048 0 (number (one x)) (w (other x)) ≡ w (other x) = part_in 2048 0 (number (one x)) (w (other x)) (omega arith) (omega (arith, at, low)) in
      omega (arith, this, all_parts xs h.1, sum_by-cons (λ x. part 2048 0 (number (one x)) (w (other x))) x xs, sum_by-cons w (other x) (map other xs))

  same_number : (a : Addr) (r p : ℕ) → IsPlace a r p → (xs : List X) → Each (λ x. HasPlace (one x)) xs → filter (λ x. same a (one x)) xs ≡ filter (λ x. eqb (number (one x)) p) xs
  same_number a r p at [] h = refl
  same_number a r p at (x ∷ xs) h = λ j. cond (tests j) (x ∷ same_number a r p at xs h.1 j) (same_number a r p at xs h.1 j)
    where
      there : number (one x) ≡ h.0.1
      there = number_is (one x) h.0.0 h.0.1 h.0.2

      tests : same a (one x) ≡ eqb (number (one x)) p
      tests = both_ways (same a (one x)) (eqb (number (one x)) p)
          (λ s. agrees (number (one x)) p (there ∙ sym (is-place a (one x) r h.0.0 p h.0.1 at h.0.2 (same-is a (one x) s))))
          (λ e. same-from a (one x) (place-is a (one x) r h.0.0 p at (subst (IsPlace (one x) h.0.0) (sym there ∙ eqb-true (number (one x)) p e) h.0.2)))

  -- a table holds at all its places what the edges have
  pub all_there : (xs : List X) (lists : List (List (Addr × ℕ))) → IsListed one other xs lists → Each (λ x. HasPlace (one x)) xs → sum_by w (all_of lists) ≡ sum_by w (map other xs)
  all_there xs lists h placed =
      gathered xs lists 0 (λ i m. let a : HasNumber i = address i (low i m) in h.listed a.0 a.1 i a.2 ∙ ap (map other) (same_number a.0 a.1 i a.2 xs placed) ∙ ap (λ n. map other (filter (λ x. eqb (number (one x)) n) xs)) (zero_plus i))
      ∙ ends xs h.list_places placed
    where
      zero_plus : (i : ℕ) → i ≡ 0 + i
      zero_plus i = omega arith

      low : (i : ℕ) → i < length lists → i < 2048
      low i m = let long : length lists ≡ 2048 = h.list_places (omega (arith, m)) in omega (arith, m, long)

      ends : (ys : List X) → (0 < length ys + length lists → length lists ≡ 2048) → Each (λ x. HasPlace (one x)) ys → sum_by (λ x. part (length lists) 0 (number (one x)) (w (other x))) ys ≡ sum_by w (map other ys)
      ends [] long k = refl
      ends (y ∷ ys) long k = ap (λ n. sum_by (λ x. part n 0 (number (one x)) (w (other x))) (y ∷ ys)) (long (omega arith)) ∙ all_parts (y ∷ ys) k

-- ---- the edges of two tables

placed_ends : (xs : List (Edge × ℕ)) → ((e : Edge) → has_edge (edges_of xs) e.source e.target ≡ true → HasPlace e.source × HasPlace e.target) → Each (λ x. HasPlace x.0.source × HasPlace x.0.target) xs
placed_ends [] h = tt
placed_ends (x ∷ xs) h = (h x.0 here, placed_ends xs (λ e there. h e (later e there)))
  where
    here : has_edge (edges_of (x ∷ xs)) x.0.source x.0.target ≡ true
    here = ap (λ b. b || has_edge (edges_of xs) x.0.source x.0.target) (and_both (same x.0.source x.0.source) (same x.0.target x.0.target) (same-refl x.0.source) (same-refl x.0.target))

    later : (e : Edge) → has_edge (edges_of xs) e.source e.target ≡ true → has_edge (edges_of (x ∷ xs)) e.source e.target ≡ true
    later e there = by (same e.source x.0.source && same e.target x.0.target)
      where
        by : (b : Bool) → (b || has_edge (edges_of xs) e.source e.target) ≡ true
        by true = refl
        by false = there

module _ (aged : List (Edge × ℕ)) (targets sources : List (List (Addr × ℕ))) (next count : ℕ) (h : AreAged aged targets sources next count) where
  in_order_onward : (xs : List (Addr × ℕ)) → Sorted xs → ((w : Addr × ℕ → ℕ) → sum_by w xs ≡ sum_by w (all_of targets)) → xs ≡ map onto aged
  in_order_onward xs s e =
      one_order 0 xs (map onto aged) next s (rising-map (λ g. g.target) 0 aged next h.rising)
      (λ w. e w ∙ all_there (λ x. x.0.source) onto w aged targets h.onward (each-of (λ x. HasPlace x.0.source × HasPlace x.0.target) (λ x. HasPlace x.0.source) (λ x p. p.0) aged (placed_ends aged h.placed)))

  in_order_back : (xs : List (Addr × ℕ)) → Sorted xs → ((w : Addr × ℕ → ℕ) → sum_by w xs ≡ sum_by w (all_of sources)) → xs ≡ map out_of aged
  in_order_back xs s e =
      one_order 0 xs (map out_of aged) next s (rising-map (λ g. g.source) 0 aged next h.rising)
      (λ w. e w ∙ all_there (λ x. x.0.target) out_of w aged sources h.back (each-of (λ x. HasPlace x.0.source × HasPlace x.0.target) (λ x. HasPlace x.0.target) (λ x p. p.1) aged (placed_ends aged h.placed)))

  together : (xs : List (Edge × ℕ)) → map (λ p. (edge p.1.0 p.0.0, p.0.1)) (zip (map onto xs) (map out_of xs)) ≡ xs
  together [] = refl
  together (x ∷ xs) = ap (λ ys. x ∷ ys) (together xs)

  ends_together : (xs : List (Edge × ℕ)) → map (λ p. edge p.1.0 p.0.0) (zip (map onto xs) (map out_of xs)) ≡ edges_of xs
  ends_together [] = refl
  ends_together (x ∷ xs) = ap (λ ys. x.0 ∷ ys) (ends_together xs)

  -- the edges are those that the tables give
  pub aged-is : aged_edges targets sources ≡ aged
  unfolding aged_edges
  aged-is =
      (λ j. map (λ p. (edge p.1.0 p.0.0, p.0.1)) (zip (in_order_onward (by_age (all_of targets)) (by_age-sorted (all_of targets)) (λ w. by_age-sum w (all_of targets)) j) (in_order_back (by_age (all_of sources)) (by_age-sorted (all_of sources)) (λ w. by_age-sum w (all_of sources)) j)))
      ∙ together aged

  pub closed : AreAged (aged_edges targets sources) targets sources next count
  closed = subst (λ xs. AreAged xs targets sources next count) (sym aged-is) h

  -- so are those that two sorts give
  module _ (ts ss : List (Addr × ℕ)) (t : IsPermutation (all_of targets) ts) (t_up : IsNonDecreasingBy (λ x. x.1) ts) (s : IsPermutation (all_of sources) ss) (s_up : IsNonDecreasingBy (λ x. x.1) ss) where
    onward_is : ts ≡ map onto aged
    onward_is = in_order_onward ts (sorted ts t_up) (λ w. sum_by-IsPermutation w (all_of targets) ts t)

    back_is : ss ≡ map out_of aged
    back_is = in_order_back ss (sorted ss s_up) (λ w. sum_by-IsPermutation w (all_of sources) ss s)

    pub sorted_lengths : length ts ≡ length ss
    sorted_lengths = ap length onward_is ∙ length-map aged onto ∙ sym (length-map aged out_of) ∙ sym (ap length back_is)

    pub sorted_edges : map (λ p. edge p.1.0 p.0.0) (zip ts ss) ≡ edges_of aged
    sorted_edges = (λ j. map (λ p. edge p.1.0 p.0.0) (zip (onward_is j) (back_is j))) ∙ ends_together aged

-- two tables without an edge
pub taken : (ts us ts' us' : List (List (Addr × ℕ))) (next count : ℕ) (s t : Addr) (n r p q u : ℕ) → AreAged (aged_edges ts us) ts us next count → lookup (is_edge s t) (aged_edges ts us) ≡ Some n → IsPlace s r p → IsPlace t q u → ts' ≡ set ts p (without_age n (get_or ts p [])) → us' ≡ set us u (without_age n (get_or us u [])) →
    AreAged (aged_edges ts' us') ts' us' next (count - 1) × (edges_of (aged_edges ts' us') ≡ without_edge (edges_of (aged_edges ts us)) s t)
taken ts us ts' us' next count s t n r p q u k found at to e f =
    let left : AreAged (without s t (aged_edges ts us)) ts' us' next (count - 1) = unlinked (aged_edges ts us) ts us next count k s t n found ts' us' (count - 1) r p q u at to e f (omega (arith, some_count (aged_edges ts us) ts us next count k s t n found)) in
    (closed (without s t (aged_edges ts us)) ts' us' next (count - 1) left, ap edges_of (aged-is (without s t (aged_edges ts us)) ts' us' next (count - 1) left) ∙ edges-without s t (aged_edges ts us))

-- two tables with an edge more
pub added : (ts us ts' us' : List (List (Addr × ℕ))) (aged : List (Edge × ℕ)) (next age next' count count' : ℕ) (s t : Addr) (r p q u : ℕ) → AreAged aged ts us next count → length ts ≡ 2048 → length us ≡ 2048 → has_edge (edges_of aged) s t ≡ false → sources_of (edges_of aged) t < most_sources → makes_cycle (edges_of aged) s t ≡ false → IsPlace s r p → IsPlace t q u →
    ts' ≡ set ts p (get_or ts p [] ++ (t, age) ∷ []) → us' ≡ set us u (get_or us u [] ++ (s, age) ∷ []) → TellsPlace age s → next ≤ age → age < next' → count' ≡ count + 1 → AreAged (aged_edges ts' us') ts' us' next' count' × (edges_of (aged_edges ts' us') ≡ edges_of aged ++ edge s t ∷ [])
added ts us ts' us' aged next age next' count count' s t r p q u k long wide fresh room clear at to e f tells low high one =
    let new : AreAged (aged ++ (edge s t, age) ∷ []) ts' us' next' count' = linked aged ts us next count k ts' us' s t age next' count' r p q u long wide fresh room clear at to e f tells low high one in
    (closed (aged ++ (edge s t, age) ∷ []) ts' us' next' count' new, ap edges_of (aged-is (aged ++ (edge s t, age) ∷ []) ts' us' next' count' new) ∙ map-append (λ (x : Edge × ℕ). x.0) aged ((edge s t, age) ∷ []))
