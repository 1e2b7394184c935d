-- Runs of bytes that stay as they are, up to the first that does not.
use Rattle.std.proofs.Common.{◌≡◌, ℕ, suc, ◌+◌, ◌≤◌, ◌<◌, ◌∙◌, Bool, true, false, not, cond, ltb, List, [], ◌∷◌, ◌++◌, length, take, drop, get_or, Some, None, refl, sym, ap, arith, append_assoc, ◌||◌, ◌==◌, ◌/◌, ◌%◌, nat_lt}
use Rattle.std.specs.List.{position, position_or_len, flat_map}
use Rattle.std.specs.Prelude.{codes}
use Rattle.log_forms.specs.Csv.{is_quote, doubled}
use Rattle.log_forms.specs.Json.{needs_escape, escaped, small_digit}
use Rattle.std.proofs.lemmas.Bool.{ltb-true, ltb-false}
use Rattle.std.proofs.lemmas.List.Sums.{prefix_len-le-length, passes_at_first}

-- ---- the place that a search finds

pub found_at : (p : ℕ → Bool) (xs : List ℕ) (n : ℕ) → Some n ≡ position p xs → (n ≡ position_or_len p xs) × (n < length xs)
found_at p xs n = go (ltb (position_or_len p xs) (length xs)) refl
  where
    go : (b : Bool) → ltb (position_or_len p xs) (length xs) ≡ b → Some n ≡ cond b (Some (position_or_len p xs)) None → (n ≡ position_or_len p xs) × (n < length xs)
    go true e h =
        let same : n ≡ position_or_len p xs = cc in
        let l : position_or_len p xs < length xs = ltb-true (position_or_len p xs) (length xs) e in
        (same, omega arith)
    go false e h = absurd cc

pub found_none : (p : ℕ → Bool) (xs : List ℕ) → None ≡ position p xs → position_or_len p xs ≡ length xs
found_none p xs = go (ltb (position_or_len p xs) (length xs)) refl
  where
    go : (b : Bool) → ltb (position_or_len p xs) (length xs) ≡ b → None ≡ cond b (Some (position_or_len p xs)) None → position_or_len p xs ≡ length xs
    go true e h = absurd cc
    go false e h = let l : length xs ≤ position_or_len p xs = ltb-false (position_or_len p xs) (length xs) e in omega (arith, prefix_len-le-length (λ x. not (p x)) xs)

-- ---- what is written for each byte, where it is the byte itself unless the test passes

module _ (f : ℕ → List ℕ) (p : ℕ → Bool) (stays : (b : ℕ) → p b ≡ false → f b ≡ b ∷ []) where
  one_run : (xs : List ℕ) → position_or_len p xs < length xs → flat_map f xs ≡ take (position_or_len p xs) xs ++ (f (get_or xs (position_or_len p xs) 0) ++ flat_map f (drop (position_or_len p xs + 1) xs))
  one_run [] h = absurd (omega arith)
  one_run (b ∷ xs) h = go (p b) refl h (one_run xs)
    where
      go : (t : Bool) → p b ≡ t → cond (not t) (1 + position_or_len p xs) 0 < length (b ∷ xs)
          → (position_or_len p xs < length xs → flat_map f xs ≡ take (position_or_len p xs) xs ++ (f (get_or xs (position_or_len p xs) 0) ++ flat_map f (drop (position_or_len p xs + 1) xs)))
          → f b ++ flat_map f xs ≡ take (cond (not t) (1 + position_or_len p xs) 0) (b ∷ xs) ++ (f (get_or (b ∷ xs) (cond (not t) (1 + position_or_len p xs) 0) 0) ++ flat_map f (drop (cond (not t) (1 + position_or_len p xs) 0 + 1) (b ∷ xs)))
      go true e h more = refl
      go false e h more =
          let k : ℕ = position_or_len p xs in
          let one : 1 + k ≡ suc k = omega arith in
          let two : 1 + k + 1 ≡ suc (k + 1) = omega arith in
          ap (λ ys. ys ++ flat_map f xs) (stays b e)
          ∙ ap (λ ys. b ∷ ys) (more (omega arith))
          ∙ ap (λ n. take n (b ∷ xs) ++ (f (get_or (b ∷ xs) n 0) ++ flat_map f (drop (k + 1) xs))) (sym one)
          ∙ ap (λ n. take (1 + k) (b ∷ xs) ++ (f (get_or (b ∷ xs) (1 + k) 0) ++ flat_map f (drop n (b ∷ xs)))) (sym two)

  no_run : (xs : List ℕ) → position_or_len p xs ≡ length xs → flat_map f xs ≡ xs
  no_run [] h = refl
  no_run (b ∷ xs) h = go (p b) refl h (no_run xs)
    where
      go : (t : Bool) → p b ≡ t → cond (not t) (1 + position_or_len p xs) 0 ≡ length (b ∷ xs) → (position_or_len p xs ≡ length xs → flat_map f xs ≡ xs) → f b ++ flat_map f xs ≡ b ∷ xs
      go true e h more = absurd (omega arith)
      go false e h more = ap (λ ys. ys ++ flat_map f xs) (stays b e) ∙ ap (λ ys. b ∷ ys) (more (omega arith))

  -- a run and the byte behind it were written
  pub run_written : (out run one rest front next : List ℕ) (byte n : ℕ) (whole : List ℕ) → Some n ≡ position p rest
      → out ++ flat_map f rest ≡ whole → front ≡ take n rest → run ≡ out ++ front → byte ≡ get_or rest n 0 → one ≡ run ++ f byte → next ≡ drop (n + 1) rest
      → one ++ flat_map f next ≡ whole
  run_written out run one rest front next byte n whole at was fr r by o nx =
      let place = found_at p rest n at in
      let k : ℕ = position_or_len p rest in
      let l : position_or_len p rest < length rest = omega (arith, place.0, place.1) in
      ap (λ ys. ys ++ flat_map f next) o
      ∙ ap (λ ys. (ys ++ f byte) ++ flat_map f next) r
      ∙ ap (λ ys. ((out ++ ys) ++ f byte) ++ flat_map f next) fr
      ∙ ap (λ b. ((out ++ take n rest) ++ f b) ++ flat_map f next) by
      ∙ ap (λ ys. ((out ++ take n rest) ++ f (get_or rest n 0)) ++ flat_map f ys) nx
      ∙ simp append_assoc (ap (λ m. out ++ (take m rest ++ (f (get_or rest m 0) ++ flat_map f (drop (m + 1) rest)))) place.0)
      ∙ ap (λ ys. out ++ ys) (sym (one_run rest l))
      ∙ was

  -- the last run was written
  pub rest_written : (out new rest whole : List ℕ) → None ≡ position p rest → out ++ flat_map f rest ≡ whole → new ≡ out ++ rest → new ≡ whole
  rest_written out new rest whole at was e = e ∙ ap (λ ys. out ++ ys) (sym (no_run rest (found_none p rest at))) ∙ was

-- ---- escapes and quotation marks

pub escaped-stays : (b : ℕ) → needs_escape b ≡ false → escaped b ≡ b ∷ []
escaped-stays b e = go (b == 34) (b == 92) (nat_lt b 32) e
  where
    go : (x y z : Bool) → x || (y || z) ≡ false → cond x (codes "\\\"") (cond y (codes "\\\\") (cond z (codes "\\u00" ++ small_digit (b / 16) ∷ small_digit (b % 16) ∷ []) (b ∷ []))) ≡ b ∷ []
    go false false false e = refl
    go true y z e = absurd cc
    go false true z e = absurd cc
    go false false true e = absurd cc

pub doubled-stays : (b : ℕ) → is_quote b ≡ false → doubled b ≡ b ∷ []
doubled-stays b e = ap (λ t. cond t (codes "\"\"") (b ∷ [])) e

-- where a search for a quotation mark ends, one stands
pub quote_found : (xs : List ℕ) (n : ℕ) → Some n ≡ position is_quote xs → doubled (get_or xs n 0) ≡ codes "\"\""
quote_found xs n at =
    let place = found_at is_quote xs n at in
    let here : is_quote (get_or xs n 0) ≡ true = ap (λ k. is_quote (get_or xs k 0)) place.0 ∙ passes_at_first is_quote xs 0 (omega (arith, place.0, place.1)) in
    ap (λ t. cond t (codes "\"\"") (get_or xs n 0 ∷ [])) here
