-- Lists that grow by what each number of a range adds.
use Rattle.std.proofs.Common.{◌≡◌, ℕ, zero, suc, ◌+◌, ◌-◌, ◌<◌, ◌≤◌, Bool, true, false, cond, List, [], ◌∷◌, ◌++◌, map, refl, sym, ap, ◌∙◌, arith, append-nil, append_assoc}
use Rattle.std.proofs.lemmas.List.Elements.{filter-append}
use Rattle.std.specs.List.{filter, flat_map, range_with_len}

range-front : (a n : ℕ) → a < n → range_with_len a (n - a) ≡ a ∷ range_with_len (a + 1) (n - (a + 1))
range-front a n l =
    let k : n - a ≡ suc (n - (a + 1)) = omega arith in
    ap (range_with_len a) k

module _ {X : Type 0} (f : ℕ → List X) where
  -- what was added so far, with what is to come from this number on, is all
  unfoldable pub AreAdded : ℕ → ℕ → ℕ → List X → List X → Type 0
  AreAdded from n end old new = new ++ flat_map f (range_with_len n (end - n)) ≡ old ++ flat_map f (range_with_len from (end - from))

  pub added_none : (from end : ℕ) (old : List X) → AreAdded from from end old old
  unfolding AreAdded
  added_none from end old = refl

  pub added_next : (from n end : ℕ) (old now new : List X) → n < end → AreAdded from n end old now → new ≡ now ++ f n → AreAdded from (n + 1) end old new
  unfolding AreAdded
  added_next from n end old now new l told h =
      let rest : List X = flat_map f (range_with_len (n + 1) (end - (n + 1))) in
      ap (λ ys. ys ++ rest) h ∙ append_assoc now (f n) rest ∙ ap (λ xs. now ++ flat_map f xs) (sym (range-front n end l)) ∙ told

  pub added_all : (from n end : ℕ) (old new : List X) → end ≤ n → AreAdded from n end old new → new ≡ old ++ flat_map f (range_with_len from (end - from))
  unfolding AreAdded
  added_all from n end old new l told =
      let none : end - n ≡ 0 = omega arith in
      sym (append-nil new) ∙ ap (λ k. new ++ flat_map f (range_with_len n k)) (sym none) ∙ told

module _ {X : Type 0} (p : X → Bool) where
  -- those of many lists that pass a test, list by list
  pub filter_each : (f : ℕ → List X) (ns : List ℕ) → filter p (flat_map f ns) ≡ flat_map (λ n. filter p (f n)) ns
  filter_each f [] = refl
  filter_each f (n ∷ ns) = filter-append p (f n) (flat_map f ns) ∙ ap (λ xs. filter p (f n) ++ xs) (filter_each f ns)

  -- and one by one
  pub filter_single : (f : ℕ → X) (ns : List ℕ) → filter p (map f ns) ≡ flat_map (λ n. cond (p (f n)) (f n ∷ []) []) ns
  filter_single f [] = refl
  filter_single f (n ∷ ns) = go (p (f n)) (filter_single f ns)
    where
      go : (b : Bool) → filter p (map f ns) ≡ flat_map (λ n. cond (p (f n)) (f n ∷ []) []) ns → cond b (f n ∷ filter p (map f ns)) (filter p (map f ns)) ≡ cond b (f n ∷ []) [] ++ flat_map (λ n. cond (p (f n)) (f n ∷ []) []) ns
      go true h = ap (λ xs. f n ∷ xs) h
      go false h = h

  -- where none passes
  pub filter_none : (xs : List X) → ((x : X) → p x ≡ false) → filter p xs ≡ []
  filter_none [] h = refl
  filter_none (x ∷ xs) h = ap (λ b. cond b (x ∷ filter p xs) (filter p xs)) (h x) ∙ filter_none xs h

-- two that add the same
pub same_each : {X : Type 0} (f g : ℕ → List X) (from n : ℕ) → ((k : ℕ) → from ≤ k → k < from + n → f k ≡ g k) → flat_map f (range_with_len from n) ≡ flat_map g (range_with_len from n)
same_each f g from zero h = refl
same_each f g from (suc n) h =
    ap (λ xs. xs ++ flat_map f (range_with_len (from + 1) n)) (h from (omega arith) (omega arith))
    ∙ ap (λ xs. g from ++ xs) (same_each f g (from + 1) n (λ k low high. h k (omega arith) (omega arith)))
