-- The number of a port as text.
use Rattle.std.proofs.Common.{◌≡◌, ℕ, ◌+◌, ◌/◌, ◌%◌, ◌<◌, ◌≤◌, List, [], ◌∷◌, ◌++◌, codes, ap, arith, append_assoc, length, take, ◌∙◌}
use Rattle.std.specs.Fmt.{decimal}
use Rattle.std.proofs.Math.Seq.{take-append-add}
use Rattle.std.proofs.lemmas.Fmt.{decimal_digit, decimal_step}

-- a text, and a port with the number that is read of it
module _ (t : List ℕ) (port n : ℕ) (is : n ≡ port) where
  shown : t ++ codes " port " ++ decimal n ≡ t ++ codes " port " ++ decimal port
  shown = ap (λ k. t ++ codes " port " ++ decimal k) is

  pub one_digit : n < 10 → t ++ (32 ∷ 112 ∷ 111 ∷ 114 ∷ 116 ∷ 32 ∷ (48 + n) ∷ []) ≡ t ++ codes " port " ++ decimal port
  one_digit h = rw (append_assoc t (codes " port ") (decimal n), decimal_digit n h) at shown

  pub two_digits : 10 ≤ n → n < 16 → t ++ (32 ∷ 112 ∷ 111 ∷ 114 ∷ 116 ∷ 32 ∷ 49 ∷ (48 + n % 10) ∷ []) ≡ t ++ codes " port " ++ decimal port
  two_digits l h =
      let one : n / 10 ≡ 1 = omega arith in
      rw (append_assoc t (codes " port ") (decimal n), decimal_step n l (omega arith), decimal_digit (n / 10) (omega arith), one) at shown

-- the front of a line, from what was copied for it
pub line_front : (t digits u : List ℕ) (n count moment : ℕ) → n ≡ length t → u ≡ t ++ digits → take count digits ≡ decimal moment → take (n + count) u ≡ t ++ decimal moment
line_front t digits u n count moment same e said = ap (λ k. take (k + count) u) same ∙ ap (take (length t + count)) e ∙ take-append-add t digits count ∙ ap (λ x. t ++ x) said
