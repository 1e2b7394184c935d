-- Digits read one by one.
use Rattle.std.proofs.Common.{◌≡◌, ℕ, zero, suc, not, ◌+◌, ◌-◌, ◌*◌, ◌≤◌, ◌<◌, ◌^◌, Bool, IfSome, add-one, Option, if◌then◌else◌, subst, true, false, cond, ◌&&◌, List, [], ◌∷◌, ◌++◌, length, take, get_or, Some, None, refl, sym, ap, ◌∙◌, arith}
use Rattle.std.specs.Prelude.{nat_le}
use Rattle.std.specs.List.{list_all, position_or_len}
use Rattle.std.proofs.lemmas.Bool.{lt-leb, le-leb}
use Rattle.std.proofs.lemmas.Bool.Decides.{nat_tests}
use Rattle.std.proofs.lemmas.List.{take_more}
use Rattle.std.proofs.Math.Nat.{pow-suc, pow-le-pow_right}
use Rattle.script_text.specs.Words.{is_blank}
use Rattle.seq_state.proofs.Lists.{and_both, both_left, both_right, list_all-append}
use Rattle.script_text.specs.Numbers.{only_if, is_digit, is_number, read_on, u64}

pub read_on-append : (n : ℕ) (xs ys : List ℕ) → read_on n (xs ++ ys) ≡ read_on (read_on n xs) ys
read_on-append n [] ys = refl
read_on-append n (x ∷ xs) ys = read_on-append (n * 10 + (x - 48)) xs ys

-- what digits say
abbrev pub value_of : List ℕ → Option ℕ
value_of w = if list_all is_digit w then Some (read_on 0 w) else None

great_number : (w : List ℕ) → 2 ^ 64 ≤ read_on 0 w → u64 w ≡ None
great_number w h = go (is_number w)
  where
    go : (t : Bool) → only_if (λ n. nat_le n 18446744073709551615) (cond t (Some (read_on 0 w)) None) ≡ None
    go true = ap (λ t. cond t (Some (read_on 0 w)) None) (lt-leb (read_on 0 w) 18446744073709551615 (omega arith))
    go false = refl

-- one digit more
pub digits_more : (w : List ℕ) (i : ℕ) → i < length w → list_all is_digit (take i w) ≡ true → is_digit (get_or w i 0) ≡ true → list_all is_digit (take (i + 1) w) ≡ true
digits_more w i l h e = ap (list_all is_digit) (take_more w i 0 l) ∙ list_all-append is_digit (take i w) (get_or w i 0 ∷ []) h (and_both (is_digit (get_or w i 0)) true e refl)

pub value_more : (w : List ℕ) (i value : ℕ) → i < length w → value ≡ read_on 0 (take i w) → value * 10 + (get_or w i 0 - 48) ≡ read_on 0 (take (i + 1) w)
value_more w i value l v = ap (λ v. v * 10 + (get_or w i 0 - 48)) v ∙ sym (ap (read_on 0) (take_more w i 0 l) ∙ read_on-append 0 (take i w) (get_or w i 0 ∷ []))

-- ---- 19 digits fit

ten_times : (i : ℕ) → 10 ^ (i + 1) ≡ 10 ^ i * 10
ten_times i = ap (λ n. 10 ^ n) (add-one i) ∙ pow-suc 10 i

pub stays_small : (i value digit : ℕ) → value < 10 ^ i → digit ≤ 9 → value * 10 + digit < 10 ^ (i + 1)
stays_small i value digit v d = let e : 10 ^ (i + 1) ≡ 10 ^ i * 10 = ten_times i in omega arith

pub within_nineteen : (i value : ℕ) → value < 10 ^ i → i ≤ 19 → value < 2 ^ 64
within_nineteen i value v l = let h : 10 ^ i ≤ 10 ^ 19 = pow-le-pow_right (omega arith) l in omega arith

pub fits_one_more : (i value digit : ℕ) → value < 10 ^ i → i < 19 → digit ≤ 9 → value * 10 + digit < 2 ^ 64
fits_one_more i value digit v l d = within_nineteen (i + 1) (value * 10 + digit) (stays_small i value digit v d) (omega arith)

-- ---- a number by its digits

is_number-by : (w : List ℕ) → 1 ≤ length w → length w ≤ 20 → is_number w ≡ list_all is_digit w
is_number-by w a b = ap (λ t. t && list_all is_digit w) (and_both (nat_le 1 (length w)) (nat_le (length w) 20) (le-leb 1 (length w) a) (le-leb (length w) 20 b))

-- where it fits, the number is the value
pub fitting_number : (w : List ℕ) → 1 ≤ length w → length w ≤ 20 → IfSome (value_of w) (λ n. n < 2 ^ 64) → value_of w ≡ u64 w
fitting_number w a b s = go (list_all is_digit w) s ∙ ap (λ t. only_if (λ n. nat_le n 18446744073709551615) (cond t (Some (read_on 0 w)) None)) (sym (is_number-by w a b))
  where
    go : (t : Bool) → IfSome (cond t (Some (read_on 0 w)) None) (λ n. n < 2 ^ 64) → cond t (Some (read_on 0 w)) None ≡ only_if (λ n. nat_le n 18446744073709551615) (cond t (Some (read_on 0 w)) None)
    go true s = sym (ap (λ t. cond t (Some (read_on 0 w)) None) (le-leb (read_on 0 w) 18446744073709551615 (omega arith)))
    go false s = refl

-- ---- twenty digits

-- the value of digits before a last one
value-append : (front last : List ℕ) → length last ≡ 1 → read_on 0 (front ++ last) ≡ read_on 0 front * 10 + read_on 0 last
value-append front [] e = absurd (omega arith)
value-append front (b ∷ []) e = let plain : b - 48 ≡ 0 + (b - 48) = omega arith in read_on-append 0 front (b ∷ []) ∙ ap (λ n. read_on 0 front * 10 + n) plain
value-append front (b ∷ c ∷ last) e = absurd (omega arith)

is_value : (v : List ℕ) (n : ℕ) → Some n ≡ value_of v → (list_all is_digit v ≡ true) × (n ≡ read_on 0 v)
is_value v n e = go (list_all is_digit v) e
  where
    go : (t : Bool) → Some n ≡ cond t (Some (read_on 0 v)) None → (t ≡ true) × (n ≡ read_on 0 v)
    go true e = (refl, cc)
    go false e = cc

whole : (w front last : List ℕ) (value digit : ℕ) → w ≡ front ++ last → length last ≡ 1 → Some value ≡ value_of front → Some digit ≡ value_of last → (list_all is_digit w ≡ true) × (read_on 0 w ≡ value * 10 + digit)
whole w front last value digit e l f g =
    let x = is_value front value f in
    let y = is_value last digit g in (
      ap (list_all is_digit) e ∙ list_all-append is_digit front last x.0 y.0,
      ap (read_on 0) e ∙ value-append front last l ∙ ap (λ n. n * 10 + read_on 0 last) (sym x.1) ∙ ap (λ n. value * 10 + n) (sym y.1),
    )

-- too great with the last digit
pub too_great : (w front last : List ℕ) (value digit : ℕ) → w ≡ front ++ last → length last ≡ 1 → Some value ≡ value_of front → Some digit ≡ value_of last → 2 ^ 64 ≤ value * 10 + digit → u64 w ≡ None
too_great w front last value digit e l f g h =
    let x : read_on 0 w ≡ value * 10 + digit = (whole w front last value digit e l f g).1 in
    great_number w (omega arith)

-- not too great
pub with_last : (w front last : List ℕ) (value digit sum : ℕ) → length w ≡ 20 → w ≡ front ++ last → length last ≡ 1 → Some value ≡ value_of front → Some digit ≡ value_of last → sum ≡ value * 10 + digit → sum < 2 ^ 64 → Some sum ≡ u64 w
with_last w front last value digit sum n e l f g s h =
    let x = whole w front last value digit e l f g in
    let same : sum ≡ read_on 0 w = s ∙ sym x.1 in
    let is : Some sum ≡ value_of w = ap Some same ∙ sym (ap (λ t. cond t (Some (read_on 0 w)) None) x.0) in
    is ∙ fitting_number w (omega arith) (omega arith) (subst (λ o. IfSome o (λ n. n < 2 ^ 64)) is h)

-- ---- digits at the front of a line

-- digits up to a blank are a word
pub digits_end : (xs : List ℕ) (n : ℕ) → n ≤ length xs → list_all is_digit (take n xs) ≡ true → (n < length xs → is_blank (get_or xs n 0) ≡ true) → n ≡ position_or_len is_blank xs
digits_end [] n l d h = omega arith
digits_end (x ∷ xs) zero l d h = sym (ap (λ t. cond (not t) (1 + position_or_len is_blank xs) 0) (h (omega arith)))
digits_end (x ∷ xs) (suc n) l d h =
    let digit : is_digit x ≡ true = both_left (is_digit x) (list_all is_digit (take n xs)) d in
    let unblank : is_blank x ≡ false = grind (arith, nat_tests) in
    let more : n ≡ position_or_len is_blank xs = digits_end xs n (omega arith) (both_right (is_digit x) (list_all is_digit (take n xs)) d) (λ k. h (omega arith)) in
    let one : suc n ≡ 1 + position_or_len is_blank xs = omega arith in
    one ∙ sym (ap (λ t. cond (not t) (1 + position_or_len is_blank xs) 0) unblank)
