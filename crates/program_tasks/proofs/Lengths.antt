-- Lengths of time, part by part.
use Rattle.std.proofs.Common.{◌≡◌, ℕ, suc, ◌+◌, ◌-◌, ◌*◌, ◌≤◌, ◌<◌, Bool, true, false, List, [], ◌∷◌, length, take, drop, Option, Some, None, refl, sym, ap, ◌∙◌, arith}
use Rattle.std.specs.Prelude.{nat_le}
use Rattle.std.specs.List.{position_or_len}
use Rattle.std.proofs.Math.Nat.{add-zero}
use Rattle.std.proofs.lemmas.Bool.Decides.{nat_tests}
use Rattle.std.proofs.lemmas.List.{length-drop}
use Rattle.script_text.specs.Numbers.{both, is_digit, u64}
use Rattle.program_tasks.specs.Times.{TimePart, if_u64, is_no_digit, part_nanos, parts_of_time, sum_of_parts, time_said, unit_nanos, with_digit, with_letter}

-- the length of the number at the front, and what stands behind it
abbrev pub digits_of : List ℕ → ℕ
digits_of word = position_or_len is_no_digit word

abbrev pub behind_number : List ℕ → List ℕ
behind_number word = drop (digits_of word) word

-- the length of what stands before the first digit, and what stands behind it
abbrev pub unit_of : List ℕ → ℕ
unit_of word = position_or_len is_digit word

abbrev pub behind_unit : List ℕ → List ℕ
behind_unit word = drop (unit_of word) word

one_more : (n : ℕ) → 1 + n ≡ suc n
one_more n = omega arith

ends_a_part : (b c : ℕ) (parts : List TimePart) → with_letter b (with_digit c parts) ≡ record { digits = []; unit = b ∷ [] } ∷ with_digit c parts
ends_a_part b c [] = refl
ends_a_part b c (p ∷ parts) = refl

unit_front : (b : ℕ) (word : List ℕ) → is_digit b ≡ false → parts_of_time (b ∷ word) ≡ record { digits = []; unit = b ∷ take (unit_of word) word } ∷ parts_of_time (behind_unit word)
unit_front b [] e = rw e refl
unit_front b (c ∷ word) e = go (is_digit c) refl (unit_front c word)
  where
    go : (t : Bool) → is_digit c ≡ t → (is_digit c ≡ false → parts_of_time (c ∷ word) ≡ record { digits = []; unit = c ∷ take (unit_of word) word } ∷ parts_of_time (behind_unit word)) →
        parts_of_time (b ∷ c ∷ word) ≡ record { digits = []; unit = b ∷ take (unit_of (c ∷ word)) (c ∷ word) } ∷ parts_of_time (behind_unit (c ∷ word))
    go true h more = rw (e, h, h) (ends_a_part b c (parts_of_time word))
    go false h more = rw (e, more h, h, one_more (unit_of word)) refl

number_front : (b : ℕ) (word : List ℕ) → is_digit b ≡ true → parts_of_time (b ∷ word) ≡
    record { digits = b ∷ take (digits_of word) word; unit = take (unit_of (behind_number word)) (behind_number word) } ∷ parts_of_time (behind_unit (behind_number word))
number_front b [] e = rw e refl
number_front b (c ∷ word) e = go (is_digit c) refl (number_front c word)
  where
    go : (t : Bool) → is_digit c ≡ t →
        (is_digit c ≡ true → parts_of_time (c ∷ word) ≡ record { digits = c ∷ take (digits_of word) word; unit = take (unit_of (behind_number word)) (behind_number word) } ∷ parts_of_time (behind_unit (behind_number word))) →
        parts_of_time (b ∷ c ∷ word) ≡
        record { digits = b ∷ take (digits_of (c ∷ word)) (c ∷ word); unit = take (unit_of (behind_number (c ∷ word))) (behind_number (c ∷ word)) }
        ∷ parts_of_time (behind_unit (behind_number (c ∷ word)))
    go true h more = rw (e, more h, h, one_more (digits_of word)) refl
    go false h more = rw (e, unit_front c word h, h, h, one_more (unit_of word)) refl

first_part : (b : ℕ) (word : List ℕ) → parts_of_time (b ∷ word) ≡
    record { digits = take (digits_of (b ∷ word)) (b ∷ word); unit = take (unit_of (behind_number (b ∷ word))) (behind_number (b ∷ word)) }
    ∷ parts_of_time (behind_unit (behind_number (b ∷ word)))
first_part b word = go (is_digit b) refl
  where
    go : (t : Bool) → is_digit b ≡ t → parts_of_time (b ∷ word) ≡
        record { digits = take (digits_of (b ∷ word)) (b ∷ word); unit = take (unit_of (behind_number (b ∷ word))) (behind_number (b ∷ word)) }
        ∷ parts_of_time (behind_unit (behind_number (b ∷ word)))
    go true h = rw (number_front b word h, h, one_more (digits_of word)) refl
    go false h = rw (unit_front b word h, h, h, one_more (unit_of word)) refl

-- the first part of a word, by what was split off
pub part_is : (word number unit rest : List ℕ) (d u : ℕ) → 0 < length word → d ≡ digits_of word → number ≡ take d word → u ≡ unit_of (drop d word) → unit ≡ take u (drop d word) → rest ≡ drop u (drop d word) →
    parts_of_time word ≡ record { digits = number; unit = unit } ∷ parts_of_time rest
part_is [] number unit rest d u some hd hn hu hun hr = absurd (omega (arith, some))
part_is (b ∷ word) number unit rest d u some hd hn hu hun hr = rw (hn, hun, hr, hu, hd) (first_part b word)

some_split : (word : List ℕ) → 0 < length word → 0 < digits_of word + unit_of (behind_number word)
some_split [] some = some
some_split (b ∷ word) some = go (is_digit b) refl
  where
    go : (t : Bool) → is_digit b ≡ t → 0 < digits_of (b ∷ word) + unit_of (behind_number (b ∷ word))
    go true h = rw h (omega arith)
    go false h = rw (h, h) (omega arith)

-- what stands behind the first part is shorter
pub shorter : (word rest : List ℕ) (d u : ℕ) → 0 < length word → d ≡ digits_of word → u ≡ unit_of (drop d word) → d ≤ length word → u ≤ length (drop d word) → rest ≡ drop u (drop d word) → length rest < length word
shorter word rest d u some hd hu within-d within-u hr =
    let split : 0 < digits_of word + unit_of (behind_number word) = some_split word some in
    let same : unit_of (behind_number word) ≡ u = rw (sym hd) (sym hu) in
    let behind : length (drop d word) ≡ length word - d = length-drop d word in
    let left : length (drop u (drop d word)) ≡ length (drop d word) - u = length-drop u (drop d word) in
    rw hr (omega (arith, split, same, behind, left, hd))

-- ---- the sum

abbrev pub plus : Option ℕ → Option ℕ → Option ℕ
plus part more = both (λ m n. m + n) part more

abbrev pub most : ℕ
most = 18446744073709551615

-- the sum of a whole word, from that of the parts before and that of the rest
abbrev pub Sums : List ℕ → ℕ → List ℕ → Type 0
Sums word sum rest = sum_of_parts (parts_of_time word) ≡ plus (Some sum) (sum_of_parts (parts_of_time rest))

pub sums_none : (word : List ℕ) → Sums word 0 word
sums_none word = go (sum_of_parts (parts_of_time word))
  where
    go : (o : Option ℕ) → o ≡ plus (Some 0) o
    go None = refl
    go (Some n) = ap Some (let same : n ≡ 0 + n = omega arith in same)

pub sums_all : (word : List ℕ) (sum : ℕ) → Sums word sum [] → sum_of_parts (parts_of_time word) ≡ Some sum
sums_all word sum h = h ∙ ap Some (add-zero sum)

said_of : (word : List ℕ) → 0 < length word → time_said word ≡ if_u64 (sum_of_parts (parts_of_time word))
said_of [] some = absurd (omega (arith, some))
said_of (b ∷ word) some = refl

part_more : (sum n k : ℕ) (o : Option ℕ) → plus (Some sum) (plus (Some (n * k)) o) ≡ plus (Some (sum + n * k)) o
part_more sum n k None = refl
part_more sum n k (Some m) = ap Some (omega arith)

both_said : (number unit : List ℕ) (n k : ℕ) → u64 number ≡ Some n → unit_nanos unit ≡ Some k → part_nanos (record { digits = number; unit = unit }) ≡ Some (n * k)
both_said number unit n k hn hk = rw (hn, hk) refl

-- a part more
pub sums_more : (word rest number unit behind : List ℕ) (sum n k : ℕ) → Sums word sum rest → parts_of_time rest ≡ record { digits = number; unit = unit } ∷ parts_of_time behind → u64 number ≡ Some n → unit_nanos unit ≡ Some k →
    Sums word (sum + n * k) behind
sums_more word rest number unit behind sum n k h part hn hk =
    h ∙ ap (λ ps. plus (Some sum) (sum_of_parts ps)) part
    ∙ ap (λ p. plus (Some sum) (plus p (sum_of_parts (parts_of_time behind)))) (both_said number unit n k hn hk)
    ∙ part_more sum n k (sum_of_parts (parts_of_time behind))

-- a part that says nothing
pub said_none : (word rest number unit behind : List ℕ) (sum : ℕ) → 0 < length word → Sums word sum rest → parts_of_time rest ≡ record { digits = number; unit = unit } ∷ parts_of_time behind →
    part_nanos (record { digits = number; unit = unit }) ≡ None → time_said word ≡ None
said_none word rest number unit behind sum some h part none =
    said_of word some
    ∙ ap if_u64 (h ∙ ap (λ ps. plus (Some sum) (sum_of_parts ps)) part ∙ ap (λ p. plus (Some sum) (plus p (sum_of_parts (parts_of_time behind)))) none)

pub no_number : (number unit : List ℕ) → u64 number ≡ None → part_nanos (record { digits = number; unit = unit }) ≡ None
no_number number unit h = rw h refl

pub no_unit : (number unit : List ℕ) → unit_nanos unit ≡ None → part_nanos (record { digits = number; unit = unit }) ≡ None
no_unit number unit h = go (u64 number)
  where
    go : (o : Option ℕ) → both (λ n nanos. n * nanos) o (unit_nanos unit) ≡ None
    go None = refl
    go (Some n) = rw h refl

too_great : (n : ℕ) (o : Option ℕ) → most < n → if_u64 (plus (Some n) o) ≡ None
too_great n None h = refl
too_great n (Some m) h = go (nat_le (n + m) most) refl
  where
    go : (t : Bool) → nat_le (n + m) most ≡ t → if_u64 (Some (n + m)) ≡ None
    go true e = absurd (grind (arith, nat_tests))
    go false e = rw e refl

-- more than fits
pub said_too_much : (word rest : List ℕ) (sum : ℕ) → 0 < length word → Sums word sum rest → most < sum → time_said word ≡ None
said_too_much word rest sum some h great = said_of word some ∙ ap if_u64 h ∙ too_great sum (sum_of_parts (parts_of_time rest)) great

pub said : (word : List ℕ) (sum : ℕ) → 0 < length word → Sums word sum [] → sum ≤ most → time_said word ≡ Some sum
said word sum some h small = said_of word some ∙ ap if_u64 (sums_all word sum h) ∙ go (nat_le sum most) refl
  where
    go : (t : Bool) → nat_le sum most ≡ t → if_u64 (Some sum) ≡ Some sum
    go true e = rw e refl
    go false e = absurd (grind (arith, nat_tests))
