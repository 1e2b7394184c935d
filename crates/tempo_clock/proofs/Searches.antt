-- What a search finds.
use Rattle.std.proofs.Common.{◌≡◌, ◌≤◌, ◌<◌, ◌∙◌, ◌⊎◌, inl, inr, ℕ, zero, suc, Bool, true, false, cond, Option, Some, None, refl, ap, sym, arith}
use Rattle.tempo_clock.specs.Search.{greatest, least, found_or}
use Rattle.tempo_clock.proofs.Comparisons.{not_both}

module _ (p : ℕ → Bool) where
  at_most : (k n : ℕ) → k ≤ suc n → (k ≤ n) ⊎ (k ≡ suc n)
  at_most k n h = grind arith

  pub greatest-within : (n : ℕ) → greatest p n ≤ n
  unfolding greatest
  greatest-within zero = omega arith
  greatest-within (suc n) = elim (p (suc n)) as (λ b. cond b (suc n) (greatest p n) ≤ suc n) [
    | true ↦ omega arith
    | false ↦ let h : greatest p n ≤ n = greatest-within n in omega arith
  ]

  pub greatest-passes : (n : ℕ) → p 0 ≡ true → p (greatest p n) ≡ true
  unfolding greatest
  greatest-passes zero h = h
  greatest-passes (suc n) h = elim (p (suc n)) as (λ b. p (suc n) ≡ b → p (cond b (suc n) (greatest p n)) ≡ true) [
    | true ↦ λ e. e
    | false ↦ λ e. greatest-passes n h
  ] refl

  pub greatest-above : (n t : ℕ) → t ≤ n → p t ≡ true → t ≤ greatest p n
  unfolding greatest
  greatest-above zero t h e = omega arith
  greatest-above (suc n) t h e = elim (p (suc n)) as (λ b. p (suc n) ≡ b → t ≤ cond b (suc n) (greatest p n)) [
    | true ↦ λ _. h
    | false ↦ λ f. elim (at_most t n h) [
      | inl below ↦ greatest-above n t below e
      | inr same ↦ absurd (not_both (p (suc n)) (ap p (sym same) ∙ e) f)
    ]
  ] refl

  -- a number that passes and has none above it that does
  pub greatest-is : (n k : ℕ) → k ≤ n → p k ≡ true → ((t : ℕ) → t ≤ n → p t ≡ true → t ≤ k) → greatest p n ≡ k
  unfolding greatest
  greatest-is zero k h e most = omega arith
  greatest-is (suc n) k h e most = elim (p (suc n)) as (λ b. p (suc n) ≡ b → cond b (suc n) (greatest p n) ≡ k) [
    | true ↦ λ t. let least : suc n ≤ k = most (suc n) (omega arith) t in omega arith
    | false ↦ λ f. elim (at_most k n h) [
      | inl below ↦ greatest-is n k below e (λ t within passes. most t (omega arith) passes)
      | inr same ↦ absurd (not_both (p (suc n)) (ap p (sym same) ∙ e) f)
    ]
  ] refl

  pub least-none : (n : ℕ) → ((t : ℕ) → t ≤ n → p t ≡ false) → least p n ≡ None
  unfolding least
  least-none zero h = ap (λ b. cond {A = Option ℕ} b (Some 0) None) (h 0 (omega arith))
  least-none (suc n) h =
      ap (λ o. found_or o (p (suc n)) (suc n)) (least-none n (λ t within. h t (omega arith)))
      ∙ ap (λ b. cond {A = Option ℕ} b (Some (suc n)) None) (h (suc n) (omega arith))

  -- a number that passes and has none below it that does
  pub least-is : (n k : ℕ) → k ≤ n → p k ≡ true → ((t : ℕ) → t < k → p t ≡ false) → least p n ≡ Some k
  unfolding least
  least-is zero k h e below =
      let same : k ≡ 0 = omega arith in
      ap (λ b. cond {A = Option ℕ} b (Some 0) None) (ap p (sym same) ∙ e) ∙ ap Some (sym same)
  least-is (suc n) k h e below = elim (at_most k n h) [
    | inl within ↦ ap (λ o. found_or o (p (suc n)) (suc n)) (least-is n k within e below)
    | inr same ↦
        ap (λ o. found_or o (p (suc n)) (suc n)) (least-none n (λ t within. below t (omega arith)))
        ∙ ap (λ b. cond {A = Option ℕ} b (Some (suc n)) None) (ap p (sym same) ∙ e) ∙ ap Some (sym same)
  ]

  -- what is known of the number that was found
  pub record IsLeast (n k : ℕ) : Type 0 where
    pub within : k ≤ n
    pub passes : p k ≡ true
    pub below : (t : ℕ) → t < k → p t ≡ false

  none_below : (n : ℕ) → least p n ≡ None → (t : ℕ) → t ≤ n → p t ≡ false
  unfolding least
  none_below zero e t h = elim (p 0) as (λ b. p 0 ≡ b → cond {A = Option ℕ} b (Some 0) None ≡ None → p t ≡ false) [
    | true ↦ λ s f. cc
    | false ↦ λ s f. let same : t ≡ 0 = omega arith in ap p same ∙ s
  ] refl e
  none_below (suc n) e t h = elim (least p n) as (λ o. least p n ≡ o → found_or o (p (suc n)) (suc n) ≡ None → p t ≡ false) [
    | Some k ↦ λ s f. cc
    | None ↦ λ s f. elim (p (suc n)) as (λ b. p (suc n) ≡ b → cond {A = Option ℕ} b (Some (suc n)) None ≡ None → p t ≡ false) [
      | true ↦ λ u g. cc
      | false ↦ λ u g. elim (at_most t n h) [
        | inl within ↦ none_below n s t within
        | inr same ↦ ap p same ∙ u
      ]
    ] refl f
  ] refl e

  pub least-none_passes : (n : ℕ) → least p n ≡ None → (t : ℕ) → t ≤ n → p t ≡ false
  least-none_passes n e t h = none_below n e t h

  pub least-found : (n k : ℕ) → least p n ≡ Some k → IsLeast n k
  unfolding least
  least-found zero k e = elim (p 0) as (λ b. p 0 ≡ b → cond {A = Option ℕ} b (Some 0) None ≡ Some k → IsLeast 0 k) [
    | true ↦ λ s f. let same : 0 ≡ k = cc in record { within = omega arith; passes = ap p (sym same) ∙ s; below = λ t h. absurd (omega arith) }
    | false ↦ λ s f. absurd cc
  ] refl e
  least-found (suc n) k e = elim (least p n) as (λ o. least p n ≡ o → found_or o (p (suc n)) (suc n) ≡ Some k → IsLeast (suc n) k) [
    | Some j ↦ λ s f.
        let same : j ≡ k = cc in
        let was : IsLeast n k = least-found n k (s ∙ ap Some same) in
        record { within = let h : k ≤ n = was.within in omega arith; passes = was.passes; below = was.below }
    | None ↦ λ s f. elim (p (suc n)) as (λ b. p (suc n) ≡ b → cond {A = Option ℕ} b (Some (suc n)) None ≡ Some k → IsLeast (suc n) k) [
      | true ↦ λ u g. let same : suc n ≡ k = cc in
          record { within = omega arith; passes = ap p (sym same) ∙ u; below = λ t h. none_below n s t (omega arith) }
      | false ↦ λ u g. absurd cc
    ] refl f
  ] refl e
