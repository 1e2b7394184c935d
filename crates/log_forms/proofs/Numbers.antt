-- Decimal numbers.
use Rattle.std.proofs.Common.{◌≡◌, ◌<◌, ◌≤◌, ◌+◌, ◌%◌, ◌^◌, ℕ, zero, suc, Bool, true, false, not, ◌&&◌, ◌||◌, ◌==◌, List, [], ◌∷◌, ◌++◌, length, get_or, refl, ap, ◌∙◌, sym, arith, eqb}
use Rattle.std.specs.Fmt.{decimal}
use Rattle.std.specs.List.{list_all}
use Rattle.std.specs.Str.{byte}
use Rattle.std.proofs.lemmas.Bool.{eqb-true}
use Rattle.std.proofs.lemmas.Bool.Decides.{nat_tests}
use Rattle.std.proofs.lemmas.Fmt.{decimal_by_steps, decimal_digit, decimal_nonempty, first_decimal}
use Rattle.std.proofs.lemmas.List.Folds.{list_all-append}
use Rattle.log_forms.specs.Lines.{is_digit, is_number, is_upper, is_lower, is_plain_byte, is_plain}
use Rattle.log_forms.proofs.Hexed.{and_left, and_right}

one_digit : (b : ℕ) → 48 ≤ b → b ≤ 57 → list_all is_digit (b ∷ []) ≡ true
one_digit b low high = grind (arith, nat_tests)

-- two digits or more, of which the first is no zero
pub is_number-long : (w : List ℕ) → 2 ≤ length w → (get_or w 0 0 ≡ 48 → ⊥) → list_all is_digit w ≡ is_number w
is_number-long [] h e = absurd (omega arith)
is_number-long (b ∷ []) h e = absurd (omega arith)
is_number-long (b ∷ d ∷ w) h e = go (eqb b 48) refl
  where
    go : (t : Bool) → eqb b 48 ≡ t → list_all is_digit (b ∷ d ∷ w) ≡ not t && list_all is_digit (b ∷ d ∷ w)
    go false q = refl
    go true q = absurd (e (eqb-true b 48 q))

-- ---- the digits of a number

decimal-digits : (n : ℕ) → n < 2 ^ 64 → list_all is_digit (decimal n) ≡ true
decimal-digits n h = decimal_by_steps (λ m ds. list_all is_digit ds ≡ true) one more n h
  where
    one : (m : ℕ) → m < 10 → list_all is_digit ((48 + m) ∷ []) ≡ true
    one m l = one_digit (48 + m) (omega arith) (omega arith)

    more : (m : ℕ) (ds : List ℕ) → 10 ≤ m → list_all is_digit ds ≡ true → list_all is_digit (ds ++ ((48 + m % 10) ∷ [])) ≡ true
    more m ds l e =
        list_all-append is_digit ds ((48 + m % 10) ∷ [])
        ∙ ap (λ b. b && list_all is_digit ((48 + m % 10) ∷ [])) e
        ∙ one_digit (48 + m % 10) (omega arith) (omega arith)

number_of_digits : (ds : List ℕ) → list_all is_digit ds ≡ true → 0 < length ds → (2 ≤ length ds → get_or ds 0 0 ≡ 48 → ⊥) → is_number ds ≡ true
number_of_digits [] all some first = absurd (omega arith)
number_of_digits (b ∷ []) all some first = and_left (is_digit b) true all
number_of_digits (b ∷ d ∷ ds) all some first =
    let two : 2 ≤ length (b ∷ d ∷ ds) = omega arith in
    sym (is_number-long (b ∷ d ∷ ds) two (first two)) ∙ all

no_zero_first : (n : ℕ) → n < 2 ^ 64 → 2 ≤ length (decimal n) → get_or (decimal n) 0 0 ≡ 48 → ⊥
no_zero_first zero h two e = let one = ap length (decimal_digit 0 (omega arith)) in omega (arith, one)
no_zero_first (suc n) h two e = omega (arith, first_decimal (suc n) (omega arith) h)

pub is_number-decimal : (n : ℕ) → n < 2 ^ 64 → is_number (decimal n) ≡ true
is_number-decimal n h = number_of_digits (decimal n) (decimal-digits n h) (decimal_nonempty n h) (no_zero_first n h)

-- ---- digits need no escape

pub list_all-more : (p q : ℕ → Bool) → ((b : ℕ) → p b ≡ true → q b ≡ true) → (w : List ℕ) → list_all p w ≡ true → list_all q w ≡ true
list_all-more p q more [] e = refl
list_all-more p q more (b ∷ w) e =
    ap (λ t. t && list_all q w) (more b (and_left (p b) (list_all p w) e))
    ∙ list_all-more p q more w (and_right (p b) (list_all p w) e)

plain_digit : (b : ℕ) → is_digit b ≡ true → is_plain_byte b ≡ true
plain_digit b e = ap (λ t. t || (is_upper b || (is_lower b || b == byte "-"))) e

pub is_plain-decimal : (n : ℕ) → n < 2 ^ 64 → is_plain (decimal n) ≡ true
is_plain-decimal n h = list_all-more is_digit is_plain_byte plain_digit (decimal n) (decimal-digits n h)
