-- How a search marks what it has found.
use Rattle.std.proofs.Common.{◌≡◌, inl, inr, ℕ, zero, suc, ◌+◌, ◌-◌, ◌/◌, ◌%◌, ◌<◌, ◌≤◌, ltb, Bool, true, false, if◌then◌else◌, ◌||◌, List, [], ◌∷◌, ◌++◌, map, length, take, get_or, set, Some, None, refl, ap, sym, subst, ◌∙◌, arith}
use Rattle.std.specs.List.{AllByRecursion, list_any, slice_get}
use Rattle.std.proofs.lemmas.Bool.{cases_eq, false≢true}
use Rattle.std.proofs.lemmas.Bool.Decides.{nat_tests}
use Rattle.std.proofs.lemmas.List.{get_or-set_same, get_or-set_other, length-set, length-map, length-take, map-append, take_more, take_more_set}
use Rattle.std.proofs.lemmas.List.Folds.{list_any-append}
use Rattle.std.proofs.lemmas.List.Sums.{fold-append}
use Rattle.node_table.specs.Addresses.{same, is_filter}
use Rattle.node_table.specs.Kept.{IsPlace}
use Rattle.node_table.specs.declared.number.Addr.{Addr}
use Rattle.node_table.specs.declared.number.Node.TheVariants.{Port, Filter}
use Rattle.patch_graph.specs.Aged.{TellsPlace}
use Rattle.patch_graph.specs.Found.{with_found, with_filters, addr_of, marks, IsFound}
use Rattle.patch_graph.proofs.Same.{same-from, differ, place-is, is-place, place-below}

marks-le : (bs : List Bool) → marks bs ≤ length bs
marks-le [] = omega arith
marks-le (true ∷ bs) = let h : marks bs ≤ length bs = marks-le bs in omega arith
marks-le (false ∷ bs) = let h : marks bs ≤ length bs = marks-le bs in omega arith

marks-room : (bs : List Bool) (i : ℕ) → i < length bs → get_or bs i false ≡ false → marks bs < length bs
marks-room [] i l h = absurd (omega arith)
marks-room (true ∷ bs) zero l h = cc
marks-room (false ∷ bs) zero l h = let k : marks bs ≤ length bs = marks-le bs in omega arith
marks-room (true ∷ bs) (suc i) l h = let k : marks bs < length bs = marks-room bs i (omega arith) h in omega arith
marks-room (false ∷ bs) (suc i) l h = let k : marks bs < length bs = marks-room bs i (omega arith) h in omega arith

marks-set : (bs : List Bool) (i : ℕ) → i < length bs → get_or bs i false ≡ false → marks (set bs i true) ≡ marks bs + 1
marks-set [] i l h = absurd (omega arith)
marks-set (true ∷ bs) zero l h = cc
marks-set (false ∷ bs) zero l h = omega arith
marks-set (true ∷ bs) (suc i) l h = let k : marks (set bs i true) ≡ marks bs + 1 = marks-set bs i (omega arith) h in omega arith
marks-set (false ∷ bs) (suc i) l h = let k : marks (set bs i true) ≡ marks bs + 1 = marks-set bs i (omega arith) h in omega arith

marks-grow : (bs : List Bool) (i : ℕ) → marks bs ≤ marks (set bs i true)
marks-grow [] i = omega arith
marks-grow (true ∷ bs) zero = omega arith
marks-grow (false ∷ bs) zero = omega arith
marks-grow (b ∷ bs) (suc i) = let k : marks bs ≤ marks (set bs i true) = marks-grow bs i in omega arith

-- ---- the address of a place

is_less : (m n : ℕ) → ltb m n ≡ true → m < n
is_less m n h = grind (arith, nat_tests)

not_less : (m n : ℕ) → ltb m n ≡ false → n ≤ m
not_less m n h = grind (arith, nat_tests)

pub addr_of-place : (p : ℕ) → p < 2048 → IsPlace (addr_of p) (p / 32) p
addr_of-place p l = by (ltb (p % 32) 16) refl
  where
    by : (b : Bool) → ltb (p % 32) 16 ≡ b → IsPlace (record { client = 128 + p / 32; node = if b then Port (p % 32) else Filter (p % 32 - 16) }) (p / 32) p
    by true h = record { client = refl; below = omega (arith, l); small = is_less (p % 32) 16 h; is = omega arith }
    by false h = record { client = refl; below = omega (arith, l); small = omega arith; is = omega (arith, not_less (p % 32) 16 h) }

pub addr_of-is : (a : Addr) (row p : ℕ) → IsPlace a row p → addr_of p ≡ a
addr_of-is a row p at = place-is (addr_of p) a (p / 32) row p (addr_of-place p (place-below a row p at)) at

pub place_found : (xs : List ℕ) (count i : ℕ) → i < count → i < length xs → slice_get (map addr_of (take count xs)) i ≡ Some (addr_of (get_or xs i 0))
place_found [] count i l m = absurd (omega (arith, m))
place_found (x ∷ xs) zero i l m = absurd (omega (arith, l))
place_found (x ∷ xs) (suc count) zero l m = refl
place_found (x ∷ xs) (suc count) (suc i) l m = place_found xs count i (omega (arith, l)) (omega (arith, m))

pub none_after : (xs : List ℕ) (count i : ℕ) → count ≤ i → slice_get (map addr_of (take count xs)) i ≡ None
none_after xs zero i l = refl
none_after [] (suc count) i l = refl
none_after (x ∷ xs) (suc count) zero l = absurd (omega (arith, l))
none_after (x ∷ xs) (suc count) (suc i) l = none_after xs count i (omega (arith, l))

-- ---- what is marked

pub none_found : (marked : List Bool) (listed : List ℕ) → length marked ≡ 2048 → length listed ≡ 2048 → ((i : ℕ) → get_or marked i false ≡ false) → ((i : ℕ) → get_or listed i 0 ≡ 0) → IsFound marked listed 0
none_found marked listed l m h k = record { mark_places = l; list_places = m; small = λ i. omega (arith, k i); counted = omega arith; by_place = λ a row place at f. h place }

module _ (marked : List Bool) (listed : List ℕ) (count : ℕ) (found : IsFound marked listed count) where
  abbrev nodes : List Addr
  nodes = map addr_of (take count listed)

  pub few_places : count ≤ 2048
  few_places = let h : marks marked ≤ length marked = marks-le marked in omega (arith, found.counted, found.mark_places)

  pub few_found : length nodes ≤ 2048
  few_found = omega (arith, few_places, length-map (take count listed) addr_of, length-take {A = ℕ} count listed)

  pub is_found : (a : Addr) (row place : ℕ) (b : Bool) → IsPlace a row place → get_or marked place false ≡ b → is_filter a ≡ true → list_any (same a) nodes ≡ b
  is_found a row place b at h f = sym (found.by_place a row place at f) ∙ h

  -- a port, or a filter that is there
  pub unchanged : (a : Addr) (row place : ℕ) → IsPlace a row place → get_or marked place false ≡ true → nodes ≡ with_filters nodes (a ∷ [])
  unchanged a row place at h = by (is_filter a) refl
    where
      by : (b : Bool) → is_filter a ≡ b → nodes ≡ (if b then with_found nodes a else nodes)
      by true f = ap (λ b. if b then nodes else nodes ++ a ∷ []) (sym (is_found a row place true at h f))
      by false f = refl

  module _ (a : Addr) (row place : ℕ) (at : IsPlace a row place) (filter : is_filter a ≡ false) where
    pub port-marked : IsFound (set marked place true) listed count
    port-marked = record {
      mark_places = length-set marked place true ∙ found.mark_places;
      list_places = found.list_places;
      small = found.small;
      counted = let h : marks marked ≤ marks (set marked place true) = marks-grow marked place in omega (arith, found.counted);
      by_place = λ b r p k f. elim (cases_eq p place) [
        | inl e ↦ let here : b ≡ a = place-is b a r row place (subst (IsPlace b r) e k) at in absurd (false≢true (sym filter ∙ ap is_filter (sym here) ∙ f))
        | inr n ↦ get_or-set_other marked place p true false n ∙ found.by_place b r p k f
      ];
    }

  module _ (a : Addr) (row place : ℕ) (at : IsPlace a row place) (filter : is_filter a ≡ true) (fresh : list_any (same a) nodes ≡ false) where
    unmarked : get_or marked place false ≡ false
    unmarked = found.by_place a row place at filter ∙ fresh

    low : place < 2048
    low = place-below a row place at

    within : place < length marked
    within = omega (arith, low, found.mark_places)

    pub room : count < 2048
    room = let h : marks marked < length marked = marks-room marked place within unmarked in omega (arith, found.counted, found.mark_places)

    in_list : count < length listed
    in_list = omega (arith, room, found.list_places)

    plain : map addr_of (take (count + 1) (set listed count place)) ≡ nodes ++ a ∷ []
    plain = ap (map addr_of) (take_more_set listed count place in_list) ∙ map-append addr_of (take count listed) (place ∷ []) ∙ ap (λ x. nodes ++ x ∷ []) (addr_of-is a row place at)

    pub added : map addr_of (take (count + 1) (set listed count place)) ≡ with_filters nodes (a ∷ [])
    added = plain
        ∙ ap (λ b. if b then nodes else nodes ++ a ∷ []) (sym fresh)
        ∙ ap (λ b. if b then with_found nodes a else nodes) (sym filter)

    pub found-added : IsFound (set marked place true) (set listed count place) (count + 1)
    found-added =
        record {
          mark_places = length-set marked place true ∙ found.mark_places;
          list_places = length-set listed count place ∙ found.list_places;
          small = λ i. elim (cases_eq i count) [
            | inl e ↦ omega (arith, low, ap (λ n. get_or (set listed count place) n 0) e, get_or-set_same listed count place 0 in_list)
            | inr n ↦ omega (arith, found.small i, get_or-set_other listed count i place 0 n)
          ];
          counted = omega (arith, found.counted, marks-set marked place within unmarked);
          by_place = λ b r p k f. elim (cases_eq p place) [
            | inl e ↦ let here : b ≡ a = place-is b a r row place (subst (IsPlace b r) e k) at in
                ap (λ n. get_or (set marked place true) n false) e ∙ get_or-set_same marked place true false within
                ∙ sym (ap (list_any (same b)) plain ∙ list_any-append (same b) nodes (a ∷ []) ∙ last (list_any (same b) nodes) (same b a) (same-from b a here))
            | inr n ↦ get_or-set_other marked place p true false n ∙ found.by_place b r p k f
                ∙ sym (ap (list_any (same b)) plain ∙ list_any-append (same b) nodes (a ∷ []) ∙ others (list_any (same b) nodes) (same b a) (differ b a (λ e. n (is-place b a r row p place k at e))))
          ];
        }
      where
        last : (x y : Bool) → y ≡ true → (x || (y || false)) ≡ true
        last x y h = grind arith

        others : (x y : Bool) → y ≡ false → (x || (y || false)) ≡ x
        others x y h = grind arith

-- one more of the nodes that are looked at
pub more_filters : (xs ts new old : List Addr) (i : ℕ) (t : Addr) → i < length ts → t ≡ get_or ts i t → old ≡ with_filters xs (take i ts) → new ≡ with_filters old (t ∷ []) → new ≡ with_filters xs (take (i + 1) ts)
more_filters xs ts new old i t l e h k =
    k ∙ ap (λ ys. with_filters ys (t ∷ [])) h ∙ sym (fold-append (λ ys u. if is_filter u then with_found ys u else ys) xs (take i ts) (t ∷ []))
    ∙ ap (with_filters xs) (ap (λ u. take i ts ++ u ∷ []) e ∙ sym (take_more ts i t l))

-- the node at a place, and the age beside it
told_at : (xs : List (Addr × ℕ)) → AllByRecursion (λ x. TellsPlace x.1 x.0) xs → (i : ℕ) (a : Addr) → slice_get (map (λ x. x.0) xs) i ≡ Some a → TellsPlace (get_or (map (λ x. x.1) xs) i 0) a
told_at [] h i a e = cc
told_at (x ∷ xs) h zero a e = let is : x.0 ≡ a = cc in subst (TellsPlace x.1) is h.0
told_at (x ∷ xs) h (suc i) a e = told_at xs h.1 i a e

pub told_beside : (xs : List (Addr × ℕ)) (keys : List Addr) (ages : List ℕ) → AllByRecursion (λ x. TellsPlace x.1 x.0) xs → keys ≡ map (λ x. x.0) xs → ages ≡ map (λ x. x.1) xs → (i : ℕ) (a : Addr) → slice_get keys i ≡ Some a → TellsPlace (get_or ages i 0) a
told_beside xs keys ages h d e i a g = subst (λ vs. TellsPlace (get_or vs i 0) a) (sym e) (told_at xs h i a (ap (λ ks. slice_get ks i) (sym d) ∙ g))
