-- Items that move from the front of a list to the end of another.
use Rattle.std.proofs.Common.{◌≡◌, ◌+◌, ◌++◌, ◌∙◌, ℕ, zero, suc, Option, Some, List, [], ◌∷◌, length, take, drop, min, refl, ap, sym, arith, append_assoc, length-append}
use Rattle.std.specs.List.{slice_get}
use Rattle.cell_pools.specs.Pools.{Pool, IsBounded, after_take}
use Rattle.cell_pools.specs.declared.listening.Listening.{Listening}

module _ {A : Type 0} where
  -- one more moved
  pub split-more : (whole got rest got' rest' : List A) (first : Option A) (x : A) → whole ≡ got ++ rest → first ≡ slice_get rest 0 → first ≡ Some x → got' ≡ got ++ x ∷ [] → rest' ≡ drop 1 rest → whole ≡ got' ++ rest'
  split-more whole got [] got' rest' first x w e f g r = let bad : ⊥ = cc in absurd bad
  split-more whole got (y ∷ ys) got' rest' first x w e f g r = let regrouped : (got ++ x ∷ []) ++ ys ≡ got ++ x ∷ ys = append_assoc got (x ∷ []) ys in cc

  -- so many have moved, or all
  fronts : (got rest : List A) (max : ℕ) → length got ≡ min (length (got ++ rest)) max → (got ≡ take max (got ++ rest)) × (rest ≡ drop max (got ++ rest))
  fronts [] rest zero h = (refl, refl)
  fronts [] [] (suc max) h = (refl, refl)
  fronts [] (y ∷ ys) (suc max) h = absurd (omega arith)
  fronts (x ∷ xs) rest zero h = absurd (omega arith)
  fronts (x ∷ xs) rest (suc max) h = let r : (xs ≡ take max (xs ++ rest)) × (rest ≡ drop max (xs ++ rest)) = fronts xs rest max (omega arith) in (ap (λ ys. x ∷ ys) r.0, r.1)

  pub moved : (whole got rest : List A) (n max : ℕ) → whole ≡ got ++ rest → length got ≡ n → n ≡ min (length whole) max → got ≡ take max whole
  moved whole got rest n max w h m = let count : length got ≡ min (length (got ++ rest)) max = h ∙ m ∙ ap (λ xs. min (length xs) max) w in (fronts got rest max count).0 ∙ ap (take max) (sym w)

  -- what is left is bounded as before, and is the pool after a take
  pub still-bounded : (whole got rest : List A) (size size' : ℕ) → whole ≡ got ++ rest → size' ≡ size → IsBounded size (length whole) → IsBounded size' (length rest)
  still-bounded whole got rest size size' w e b =
      let long : length whole ≡ length got + length rest = ap length w ∙ length-append got rest in
      record { least = omega arith; most = omega arith; within = omega arith }

  pub left : (whole got rest : List A) (n max size size' lost lost' : ℕ) (listening listening' : Option Listening) → whole ≡ got ++ rest → length got ≡ n → n ≡ min (length whole) max → size' ≡ size → lost' ≡ lost → listening' ≡ listening →
      ◌≡◌ {A = Pool A} (record { size = size'; waiting = rest; lost = lost'; listening = listening' }) (after_take max (record { size = size; waiting = whole; lost = lost; listening = listening }))
  left whole got rest n max size size' lost lost' listening listening' w h m s l i =
      let count : length got ≡ min (length (got ++ rest)) max = h ∙ m ∙ ap (λ xs. min (length xs) max) w in
      let after : rest ≡ drop max whole = (fronts got rest max count).1 ∙ ap (drop max) (sym w) in
      cc
