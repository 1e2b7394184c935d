-- Lists whose ages rise, and nodes beside their ages.
use Rattle.std.proofs.Common.{◌≡◌, ◌≤◌, ◌<◌, ℕ, zero, suc, ◌+◌, Bool, true, false, not, cond, eqb, List, [], ◌∷◌, ◌++◌, map, length, take, drop, get_or, Some, refl, ap, sym, ◌∙◌, arith}
use Rattle.std.specs.List.{filter, remove, zip}
use Rattle.std.specs.Map.{lookup}
use Rattle.std.proofs.Math.Seq.{drop-cons}
use Rattle.std.proofs.lemmas.Bool.Decides.{nat_tests}
use Rattle.std.proofs.lemmas.List.{take_more, length-map, get_or-map}
use Rattle.std.proofs.lemmas.Slice.Zip.{get_or-zip}
use Rattle.patch_graph.specs.Aged.{IsRising}

pub not_age : (m n : ℕ) → (m ≡ n → ⊥) → not (eqb m n) ≡ true
not_age m n h = grind (arith, nat_tests)

pub is_age : (m n : ℕ) → m ≡ n → not (eqb m n) ≡ false
is_age m n h = grind (arith, nat_tests)

module _ {X : Type 0} where
  pub least_below : (k : ℕ) (xs : List (X × ℕ)) (next : ℕ) → IsRising k xs next → k ≤ next
  least_below k [] next h = h
  least_below k (x ∷ xs) next h = let rest : x.1 + 1 ≤ next = least_below (x.1 + 1) xs next h.1 in omega (arith, h.0)

  pub from_less : (k m : ℕ) (xs : List (X × ℕ)) (next : ℕ) → m ≤ k → IsRising k xs next → IsRising m xs next
  from_less k m [] next l h = omega (arith, h)
  from_less k m (x ∷ xs) next l h = (omega (arith, h.0), h.1)

  pub to_more : (k : ℕ) (xs : List (X × ℕ)) (next next' : ℕ) → next ≤ next' → IsRising k xs next → IsRising k xs next'
  to_more k [] next next' l h = omega (arith, h)
  to_more k (x ∷ xs) next next' l h = (h.0, to_more (x.1 + 1) xs next next' l h.1)

  pub rising-last : (k : ℕ) (xs : List (X × ℕ)) (next next' : ℕ) (x : X) → next < next' → IsRising k xs next → IsRising k (xs ++ (x, next) ∷ []) next'
  rising-last k [] next next' x l h = (h, omega (arith, l))
  rising-last k (y ∷ ys) next next' x l h = (h.0, rising-last (y.1 + 1) ys next next' x l h.1)

  pub rising-filter : (p : X × ℕ → Bool) (k : ℕ) (xs : List (X × ℕ)) (next : ℕ) → IsRising k xs next → IsRising k (filter p xs) next
  rising-filter p k [] next h = h
  rising-filter p k (x ∷ xs) next h = step (p x) (rising-filter p (x.1 + 1) xs next h.1)
    where
      step : (b : Bool) → IsRising (x.1 + 1) (filter p xs) next → IsRising k (cond b (x ∷ filter p xs) (filter p xs)) next
      step true more = (h.0, more)
      step false more = from_less (x.1 + 1) k (filter p xs) next (omega (arith, h.0)) more

  pub length-rising : (k : ℕ) (xs : List (X × ℕ)) (next : ℕ) → IsRising k xs next → k + length xs ≤ next
  length-rising k [] next h = omega (arith, h)
  length-rising k (x ∷ xs) next h = let rest : (x.1 + 1) + length xs ≤ next = length-rising (x.1 + 1) xs next h.1 in omega (arith, h.0)

  abbrev pub without_age : ℕ → List (X × ℕ) → List (X × ℕ)
  without_age age xs = filter (λ x. not (eqb x.1 age)) xs

  pub none_below : (age k : ℕ) (xs : List (X × ℕ)) (next : ℕ) → age < k → IsRising k xs next → without_age age xs ≡ xs
  none_below age k [] next l h = refl
  none_below age k (x ∷ xs) next l h =
      ap (λ b. cond b (x ∷ without_age age xs) (without_age age xs)) (not_age x.1 age (λ e. omega (arith, h.0, e, l)))
      ∙ ap (λ ys. x ∷ ys) (none_below age (x.1 + 1) xs next (omega (arith, h.0, l)) h.1)

  pub at_least : (k : ℕ) (xs : List (X × ℕ)) (next i : ℕ) (d : X × ℕ) → IsRising k xs next → i < length xs → k ≤ (get_or xs i d).1
  at_least k [] next i d h l = absurd (omega arith)
  at_least k (x ∷ xs) next zero d h l = h.0
  at_least k (x ∷ xs) next (suc i) d h l = let rest : x.1 + 1 ≤ (get_or xs i d).1 = at_least (x.1 + 1) xs next i d h.1 (omega arith) in omega (arith, h.0)

  -- the edge at this place is the only one of its age
  pub removed_age : (k : ℕ) (xs : List (X × ℕ)) (next i age : ℕ) (d : X × ℕ) → IsRising k xs next → i < length xs → (get_or xs i d).1 ≡ age → remove xs i ≡ without_age age xs
  removed_age k [] next i age d h l e = absurd (omega arith)
  removed_age k (x ∷ xs) next zero age d h l e =
      sym (ap (λ b. cond b (x ∷ without_age age xs) (without_age age xs)) (is_age x.1 age e) ∙ none_below age (x.1 + 1) xs next (omega (arith, e)) h.1)
  removed_age k (x ∷ xs) next (suc i) age d h l e =
      let rest : x.1 + 1 ≤ (get_or xs i d).1 = at_least (x.1 + 1) xs next i d h.1 (omega arith) in
      ap (λ ys. x ∷ ys) (removed_age (x.1 + 1) xs next i age d h.1 (omega arith) e)
      ∙ sym (ap (λ b. cond b (x ∷ without_age age xs) (without_age age xs)) (not_age x.1 age (λ f. omega (arith, rest, e, f))))

pub rising-map : {X Y : Type 0} (f : X → Y) (k : ℕ) (xs : List (X × ℕ)) (next : ℕ) → IsRising k xs next → IsRising k (map (λ x. (f x.0, x.1)) xs) next
rising-map f k [] next h = h
rising-map f k (x ∷ xs) next h = (h.0, rising-map f (x.1 + 1) xs next h.1)

-- ---- nodes beside ages

module _ {X : Type 0} where
  pub zip-append : (ks ls : List X) (vs ws : List ℕ) → length vs ≡ length ks → zip (ks ++ ls) (vs ++ ws) ≡ zip ks vs ++ zip ls ws
  zip-append [] ls [] ws e = refl
  zip-append [] ls (v ∷ vs) ws e = absurd (omega arith)
  zip-append (k ∷ ks) ls [] ws e = absurd (omega arith)
  zip-append (k ∷ ks) ls (v ∷ vs) ws e = ap (λ xs. (k, v) ∷ xs) (zip-append ks ls vs ws (omega arith))

  pub zip-remove : (ks : List X) (vs : List ℕ) (i : ℕ) → length vs ≡ length ks → zip (remove ks i) (remove vs i) ≡ remove (zip ks vs) i
  zip-remove [] [] zero e = refl
  zip-remove [] [] (suc i) e = refl
  zip-remove [] (v ∷ vs) i e = absurd (omega arith)
  zip-remove (k ∷ ks) [] i e = absurd (omega arith)
  zip-remove (k ∷ ks) (v ∷ vs) zero e = refl
  zip-remove (k ∷ ks) (v ∷ vs) (suc i) e = ap (λ xs. (k, v) ∷ xs) (zip-remove ks vs i (omega arith))

  pub length_zipped : (ks : List X) (vs : List ℕ) → length vs ≡ length ks → length (zip ks vs) ≡ length ks
  length_zipped [] vs e = refl
  length_zipped (k ∷ ks) [] e = absurd (omega arith)
  length_zipped (k ∷ ks) (v ∷ vs) e = ap suc (length_zipped ks vs (omega arith))

  pub zip-halves : (xs : List (X × ℕ)) → zip (map (λ x. x.0) xs) (map (λ x. x.1) xs) ≡ xs
  zip-halves [] = refl
  zip-halves (x ∷ xs) = ap (λ ys. x ∷ ys) (zip-halves xs)

  pub halves_long : (xs : List (X × ℕ)) → length (map (λ x. x.1) xs) ≡ length (map (λ x. x.0) xs)
  halves_long [] = refl
  halves_long (x ∷ xs) = ap suc (halves_long xs)

  pub halves_zip : (xs : List (X × ℕ)) (ks : List X) (vs : List ℕ) → ks ≡ map (λ x. x.0) xs → vs ≡ map (λ x. x.1) xs → zip ks vs ≡ xs
  halves_zip xs ks vs e f = (λ j. zip (e j) (f j)) ∙ zip-halves xs

  pub halves_match : (xs : List (X × ℕ)) (ks : List X) (vs : List ℕ) → ks ≡ map (λ x. x.0) xs → vs ≡ map (λ x. x.1) xs → length vs ≡ length ks
  halves_match xs ks vs e f = ap length f ∙ halves_long xs ∙ sym (ap length e)

  pub rising_ages : (k : ℕ) (ks : List X) (vs : List ℕ) (next i j d : ℕ) → length vs ≡ length ks → IsRising k (zip ks vs) next → i ≤ j → j < length vs → get_or vs i d ≤ get_or vs j d
  rising_ages k ks [] next i j d e h l m = absurd (omega arith)
  rising_ages k [] (v ∷ vs) next i j d e h l m = absurd (omega arith)
  rising_ages k (x ∷ xs) (v ∷ vs) next zero zero d e h l m = omega arith
  rising_ages k (x ∷ xs) (v ∷ vs) next zero (suc j) d e h l m = let rest : v + 1 ≤ get_or vs j d = above (v + 1) xs vs next j d (omega arith) h.1 (omega arith) in omega arith
    where
      above : (k : ℕ) (ks : List X) (vs : List ℕ) (next j d : ℕ) → length vs ≡ length ks → IsRising k (zip ks vs) next → j < length vs → k ≤ get_or vs j d
      above k ks [] next j d e h m = absurd (omega arith)
      above k [] (v ∷ vs) next j d e h m = absurd (omega arith)
      above k (x ∷ xs) (v ∷ vs) next zero d e h m = h.0
      above k (x ∷ xs) (v ∷ vs) next (suc j) d e h m = let rest : v + 1 ≤ get_or vs j d = above (v + 1) xs vs next j d (omega arith) h.1 (omega arith) in omega (arith, h.0)
  rising_ages k (x ∷ xs) (v ∷ vs) next (suc i) zero d e h l m = absurd (omega arith)
  rising_ages k (x ∷ xs) (v ∷ vs) next (suc i) (suc j) d e h l m = rising_ages (v + 1) xs vs next i j d (omega arith) h.1 (omega arith) (omega arith)

  pub no_age : (ks : List X) (vs : List ℕ) (age : ℕ) → ((i : ℕ) → i < length vs → get_or vs i 0 ≡ age → ⊥) → zip ks vs ≡ without_age age (zip ks vs)
  no_age [] vs age h = refl
  no_age (k ∷ ks) [] age h = refl
  no_age (k ∷ ks) (v ∷ vs) age h =
      ap (λ xs. (k, v) ∷ xs) (no_age ks vs age (λ i l e. h (suc i) (omega arith) e))
      ∙ sym (ap (λ b. cond b ((k, v) ∷ without_age age (zip ks vs)) (without_age age (zip ks vs))) (not_age v age (h 0 (omega arith))))

  pub removed_link : (xs : List (X × ℕ)) (i age next : ℕ) → IsRising 0 xs next → i < length (map (λ x. x.1) xs) → get_or (map (λ x. x.1) xs) i 0 ≡ age → remove xs i ≡ without_age age xs
  removed_link [] i age next h l e = absurd (omega arith)
  removed_link (x ∷ xs) i age next h l e =
      let within : i < length (x ∷ xs) = omega (arith, length-map (x ∷ xs) (λ (y : X × ℕ). y.1)) in
      removed_age 0 (x ∷ xs) next i age x h within (sym (get_or-map (λ (y : X × ℕ). y.1) (x ∷ xs) i x 0 within) ∙ e)

  -- what a loop over both lists comes to
  module _ (ks : List X) (vs : List ℕ) (xs : List (X × ℕ)) (i : ℕ) (k : X) (v : ℕ) (long : length vs ≡ length ks) (is : zip ks vs ≡ xs) (within : i < length ks) (key : k ≡ get_or ks i k) (value : v ≡ get_or vs i v) where
    pub pair_at : ◌≡◌ {A = X × ℕ} (get_or xs i (k, v)) (k, v)
    pair_at = ap (λ ys. get_or ys i (k, v)) (sym is) ∙ get_or-zip ks vs i (k, v) within (omega (arith, long)) ∙ sym (λ j. (key j, value j))

    inside : i < length xs
    inside = let e : length (zip ks vs) ≡ length xs = ap length is in omega (arith, e, length_zipped ks vs long)

    pub pair_more : take (i + 1) xs ≡ take i xs ++ (k, v) ∷ []
    pair_more = take_more xs i (k, v) inside ∙ ap (λ x. take i xs ++ x ∷ []) pair_at

    here : (p : X → Bool) → lookup p (drop i xs) ≡ cond (p k) (Some v) (lookup p (drop (suc i) xs))
    here p = ap (lookup p) (drop-cons xs i (k, v) inside ∙ ap (λ x. x ∷ drop (suc i) xs) pair_at)

    pub looked_here : (p : X → Bool) → p k ≡ true → lookup p (drop i xs) ≡ Some v
    looked_here p h = here p ∙ ap (λ b. cond b (Some v) (lookup p (drop (suc i) xs))) h

    pub looked_past : (p : X → Bool) → p k ≡ false → lookup p (drop (i + 1) xs) ≡ lookup p (drop i xs)
    looked_past p h = ap (λ n. lookup p (drop n xs)) (let e : i + 1 ≡ suc i = omega arith in e) ∙ sym (here p ∙ ap (λ b. cond b (Some v) (lookup p (drop (suc i) xs))) h)
