-- Numbers and bytes that are written, read back.
use Rattle.std.proofs.Common.{◌≡◌, ◌≤◌, ◌<◌, ℕ, ◌+◌, ◌-◌, ◌*◌, ◌/◌, ◌%◌, ◌^◌, Bool, true, false, List, [], ◌∷◌, ◌++◌, length, refl, ap, ◌∙◌, arith}
use Rattle.std.specs.Prelude.{if◌then◌else◌, nat_le, nat_lt, ◌==◌, ◌&&◌, ◌||◌, Option, Some, None}
use Rattle.std.specs.Fmt.{decimal}
use Rattle.std.specs.List.{list_all}
use Rattle.std.proofs.lemmas.Bool.{le-leb, ne_eqb}
use Rattle.std.proofs.lemmas.Bool.Decides.{nat_tests}
use Rattle.std.proofs.lemmas.Fmt.{decimal_by_steps, decimal_nonempty, length-decimal-le}
use Rattle.std.proofs.lemmas.List.Folds.{list_all-append}
use Rattle.script_text.specs.Words.{is_blank, is_empty, is_line_end}
use Rattle.script_text.specs.Numbers.{only_if, both, is_digit, read_on, number, up_to, hex_digit, hex_byte}
use Rattle.script_text.proofs.Digits.{read_on-append}
use Rattle.text_forms.specs.Hex.{digit}
use Rattle.smf_text.specs.AllTexts.{hex_of}
use Rattle.smf_make.proofs.SpelledWords.{AreFree, IsWord}

-- ---- decimal digits

digit-is : (b : ℕ) → 48 ≤ b → b ≤ 57 → list_all is_digit (b ∷ []) ≡ true
digit-is b low high = grind (arith, nat_tests)

record IsSpelled (n : ℕ) (ds : List ℕ) : Type 0 where
  all : list_all is_digit ds ≡ true
  value : read_on 0 ds ≡ n

spelled : (n : ℕ) → n < 2 ^ 64 → IsSpelled n (decimal n)
spelled n h = decimal_by_steps IsSpelled one more n h
  where
    one : (m : ℕ) → m < 10 → IsSpelled m ((48 + m) ∷ [])
    one m l = record { all = digit-is (48 + m) (omega arith) (omega arith); value = omega arith }

    more : (m : ℕ) (ds : List ℕ) → 10 ≤ m → IsSpelled (m / 10) ds → IsSpelled m (ds ++ ((48 + m % 10) ∷ []))
    more m ds l e = record {
      all = list_all-append is_digit ds ((48 + m % 10) ∷ []) ∙ ap (λ (b : Bool). b && list_all is_digit ((48 + m % 10) ∷ [])) e.all ∙ digit-is (48 + m % 10) (omega arith) (omega arith);
      value = read_on-append 0 ds ((48 + m % 10) ∷ []) ∙ ap (λ (x : ℕ). x * 10 + (48 + m % 10 - 48)) e.value ∙ (let same : m / 10 * 10 + (48 + m % 10 - 48) ≡ m = omega arith in same);
    }

pub number-decimal : (n : ℕ) → n < 2 ^ 64 → number (decimal n) ≡ Some n
number-decimal n h =
    let s : IsSpelled n (decimal n) = spelled n h in
    let some : nat_le 1 (length (decimal n)) ≡ true = le-leb 1 (length (decimal n)) (decimal_nonempty n h) in
    let few : nat_le (length (decimal n)) 20 ≡ true = le-leb (length (decimal n)) 20 (length-decimal-le 20 n (omega arith) (omega arith) h) in
    ap (λ (b : Bool). if b && nat_le (length (decimal n)) 20 && list_all is_digit (decimal n) then Some (read_on 0 (decimal n)) else None) some
    ∙ ap (λ (b : Bool). if true && b && list_all is_digit (decimal n) then Some (read_on 0 (decimal n)) else None) few
    ∙ ap (λ (b : Bool). if true && true && b then Some (read_on 0 (decimal n)) else None) s.all
    ∙ ap (λ (x : ℕ). Some x) s.value

pub up-to-decimal : (most n : ℕ) → n < 2 ^ 64 → n ≤ most → up_to most (decimal n) ≡ Some n
up-to-decimal most n h low = ap (only_if (λ x. nat_le x most)) (number-decimal n h) ∙ ap (λ (b : Bool). if b then Some n else None) (le-leb n most low)

-- a line feed or a carriage return
abbrev pub is_break : ℕ → Bool
is_break b = is_line_end b || (b == 13)

-- bytes that are neither blanks nor end a line
pub record AreSolid (w : List ℕ) : Type 0 where
  pub unblank : AreFree is_blank w
  pub unbroken : AreFree is_break w

no-blank : (b : ℕ) → 33 ≤ b → is_blank b ≡ false
no-blank b h = ap (λ (t : Bool). t || (b == 9)) (ne_eqb b 32 (λ e. omega arith)) ∙ ne_eqb b 9 (λ e. omega arith)

pub no-break : (b : ℕ) → 14 ≤ b → is_break b ≡ false
no-break b h = ap (λ (t : Bool). t || (b == 13)) (ne_eqb b 10 (λ (e : b ≡ 10). omega arith)) ∙ ne_eqb b 13 (λ (e : b ≡ 13). omega arith)

pub solid-cons : (b : ℕ) (w : List ℕ) → 33 ≤ b → AreSolid w → AreSolid (b ∷ w)
solid-cons b w h s = record { unblank = (no-blank b h, s.unblank); unbroken = (no-break b (omega arith), s.unbroken) }

solid-digits : (w : List ℕ) → list_all is_digit w ≡ true → AreSolid w
solid-digits [] e = record { unblank = tt; unbroken = tt }
solid-digits (b ∷ w) e = go (is_digit b) (list_all is_digit w) refl refl e (solid-digits w)
  where
    go : (t u : Bool) → is_digit b ≡ t → list_all is_digit w ≡ u → (t && u) ≡ true → (list_all is_digit w ≡ true → AreSolid w) → AreSolid (b ∷ w)
    go true true is more all rest = let low : 48 ≤ b = grind (arith, nat_tests) in solid-cons b w (omega arith) (rest more)
    go true false is more all rest = let bad : ⊥ = cc in absurd bad
    go false u is more all rest = let bad : ⊥ = cc in absurd bad

pub solid-decimal : (n : ℕ) → n < 2 ^ 64 → AreSolid (decimal n)
solid-decimal n h = solid-digits (decimal n) (spelled n h).all

some-byte : (w : List ℕ) → 0 < length w → is_empty w ≡ false
some-byte [] h = absurd (omega arith)
some-byte (b ∷ w) h = refl

pub word-decimal : (n : ℕ) → n < 2 ^ 64 → IsWord (decimal n)
word-decimal n h = record { some = some-byte (decimal n) (decimal_nonempty n h); solid = (solid-decimal n h).unblank }

-- it begins with a digit
pub record FirstDigit (w : List ℕ) : Type 0 where
  pub first : ℕ
  pub more : List ℕ
  pub is : w ≡ first ∷ more
  pub low : 48 ≤ first
  pub high : first ≤ 57

first-digit : (w : List ℕ) → list_all is_digit w ≡ true → 0 < length w → FirstDigit w
first-digit [] e h = absurd (omega arith)
first-digit (b ∷ w) e h = go (is_digit b) refl e
  where
    go : (t : Bool) → is_digit b ≡ t → (t && list_all is_digit w) ≡ true → FirstDigit (b ∷ w)
    go true is all =
        let low : 48 ≤ b = grind (arith, nat_tests) in
        let high : b ≤ 57 = grind (arith, nat_tests) in
        record { first = b; more = w; is = refl; low = low; high = high }
    go false is all = let bad : ⊥ = cc in absurd bad

pub decimal-first : (n : ℕ) → n < 2 ^ 64 → FirstDigit (decimal n)
decimal-first n h = first-digit (decimal n) (spelled n h).all (decimal_nonempty n h)

-- ---- hexadecimal digits

pub hex-digit : (n : ℕ) → n < 16 → hex_digit (digit n) ≡ Some n
hex-digit n h = go (nat_lt n 10) refl
  where
    go : (t : Bool) → nat_lt n 10 ≡ t → hex_digit (if t then 48 + n else 55 + n) ≡ Some n
    go true low =
        let few : n < 10 = grind (arith, nat_tests) in
        let is : is_digit (48 + n) ≡ true = grind (arith, nat_tests) in
        let same : 48 + n - 48 ≡ n = omega arith in
        ap (λ (b : Bool). if b then Some (48 + n - 48) else (if nat_le 65 (48 + n) && nat_le (48 + n) 70 then Some (48 + n - 55) else (if nat_le 97 (48 + n) && nat_le (48 + n) 102 then Some (48 + n - 87) else None))) is
        ∙ ap (λ (x : ℕ). Some x) same
    go false high =
        let many : 10 ≤ n = grind (arith, nat_tests) in
        let no : is_digit (55 + n) ≡ false = grind (arith, nat_tests) in
        let letter : (nat_le 65 (55 + n) && nat_le (55 + n) 70) ≡ true = grind (arith, nat_tests) in
        let same : 55 + n - 55 ≡ n = omega arith in
        ap (λ (b : Bool). if b then Some (55 + n - 48) else (if nat_le 65 (55 + n) && nat_le (55 + n) 70 then Some (55 + n - 55) else (if nat_le 97 (55 + n) && nat_le (55 + n) 102 then Some (55 + n - 87) else None))) no
        ∙ ap (λ (b : Bool). if b then Some (55 + n - 55) else (if nat_le 97 (55 + n) && nat_le (55 + n) 102 then Some (55 + n - 87) else None)) letter
        ∙ ap (λ (x : ℕ). Some x) same

pub hex-byte : (b : ℕ) → b < 256 → hex_byte (hex_of b) ≡ Some b
hex-byte b h =
    let same : b / 16 * 16 + b % 16 ≡ b = omega arith in
    ap (λ (o : Option ℕ). both (λ x y. x * 16 + y) o (hex_digit (digit (b % 16)))) (hex-digit (b / 16) (omega arith))
    ∙ ap (λ (o : Option ℕ). both (λ x y. x * 16 + y) (Some (b / 16)) o) (hex-digit (b % 16) (omega arith))
    ∙ ap (λ (x : ℕ). Some x) same

digit-low : (n : ℕ) → 48 ≤ digit n
digit-low n = go (nat_lt n 10)
  where
    go : (t : Bool) → 48 ≤ (if t then 48 + n else 55 + n)
    go true = omega arith
    go false = omega arith

pub solid-hex : (b : ℕ) → AreSolid (hex_of b)
solid-hex b = solid-cons (digit (b / 16)) (digit (b % 16) ∷ []) (omega (arith, digit-low (b / 16))) (solid-cons (digit (b % 16)) [] (omega (arith, digit-low (b % 16))) (record { unblank = tt; unbroken = tt }))

pub word-hex : (b : ℕ) → IsWord (hex_of b)
word-hex b = record { some = refl; solid = (solid-hex b).unblank }
