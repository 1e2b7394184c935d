-- Bytes that are written in hexadecimal, between quotation marks or as numbers, read back.
use Rattle.std.proofs.Common.{◌≡◌, ◌≤◌, ◌<◌, ℕ, zero, suc, ◌+◌, ◌-◌, ◌*◌, ◌/◌, ◌%◌, ◌^◌, Bool, true, false, List, [], ◌∷◌, ◌++◌, append_assoc, length, length-drop, map, drop, refl, ap, ◌∙◌, arith}
use Rattle.std.specs.Prelude.{if◌then◌else◌, nat_le, nat_lt, ◌==◌, ◌&&◌, ◌||◌, not, Option, Some}
use Rattle.std.specs.Fmt.{decimal}
use Rattle.std.specs.List.{AllByRecursion, flat_map}
use Rattle.std.specs.Option.{option_map, option_and_then}
use Rattle.std.proofs.lemmas.Bool.Decides.{nat_tests}
use Rattle.byteorder.specs.Endian.{big_number, big_bytes}
use Rattle.script_text.specs.Words.{words}
use Rattle.script_text.specs.Numbers.{both, hex_bytes}
use Rattle.smf_grammar.specs.Written.{all_bytes}
use Rattle.text_forms.specs.Hex.{digit, spaced_hex}
use Rattle.smf_text.specs.AllTexts.{hex_of, quoted_byte, quoted, numbers_text, sum_of}
use Rattle.smf_make.specs.SaidEvents.{Whole, Escaping, LastDigit, Closed, quoted_from, numbers_said}
use Rattle.smf_make.proofs.SpelledWords.{AreFree, IsSpaced, words-blank, words-then}
use Rattle.smf_make.proofs.SpelledNumbers.{is_break, no-break, up-to-decimal, word-decimal, solid-decimal, solid-hex, word-hex, hex-digit, hex-byte}

abbrev pub AreBytes : List ℕ → Type 0
AreBytes bytes = all_bytes bytes ≡ true

-- the first is a byte, and the others are bytes
pub record FirstByte (b : ℕ) (bytes : List ℕ) : Type 0 where
  pub first : b < 256
  pub more : AreBytes bytes

pub first-byte : (b : ℕ) (bytes : List ℕ) → AreBytes (b ∷ bytes) → FirstByte b bytes
first-byte b bytes h = go (nat_lt b 256) (all_bytes bytes) refl refl h
  where
    go : (t u : Bool) → nat_lt b 256 ≡ t → all_bytes bytes ≡ u → (t && u) ≡ true → FirstByte b bytes
    go true true is more all = let low : b < 256 = grind (arith, nat_tests) in record { first = low; more = more }
    go true false is more all = let bad : ⊥ = cc in absurd bad
    go false u is more all = let bad : ⊥ = cc in absurd bad

pub free-append : (p : ℕ → Bool) (xs ys : List ℕ) → AreFree p xs → AreFree p ys → AreFree p (xs ++ ys)
free-append p [] ys f g = g
free-append p (x ∷ xs) ys f g = (f.0, free-append p xs ys f.1 g)

-- ---- in hexadecimal

pub spaced-spaced : (bytes : List ℕ) → IsSpaced (spaced_hex bytes)
spaced-spaced [] = tt
spaced-spaced (b ∷ bytes) = refl

pub spaced-words : (bytes : List ℕ) → words (spaced_hex bytes) ≡ map hex_of bytes
spaced-words [] = refl
spaced-words (b ∷ bytes) =
    words-blank 32 (hex_of b ++ spaced_hex bytes) refl ∙ words-then (hex_of b) (spaced_hex bytes) (word-hex b) (spaced-spaced bytes)
    ∙ ap (λ (ws : List (List ℕ)). hex_of b ∷ ws) (spaced-words bytes)

pub hex-read : (bytes : List ℕ) → AreBytes bytes → hex_bytes (map hex_of bytes) ≡ Some bytes
hex-read [] h = refl
hex-read (b ∷ bytes) h =
    let parts : FirstByte b bytes = first-byte b bytes h in
    ap (λ (o : Option ℕ). both (λ x xs. x ∷ xs) o (hex_bytes (map hex_of bytes))) (hex-byte b parts.first)
    ∙ ap (both (λ x xs. x ∷ xs) (Some b)) (hex-read bytes parts.more)

pub spaced-unbroken : (bytes : List ℕ) → AreFree is_break (spaced_hex bytes)
spaced-unbroken [] = tt
spaced-unbroken (b ∷ bytes) = (refl, free-append is_break (hex_of b) (spaced_hex bytes) (solid-hex b).unbroken (spaced-unbroken bytes))

-- ---- between quotation marks

one-quoted : (b : ℕ) (rest : List ℕ) → b < 256 → quoted_from Whole (quoted_byte b ++ rest) ≡ option_map (λ more. b ∷ more) (quoted_from Whole rest)
unfolding quoted_from
one-quoted b rest h = go (nat_le 32 b && nat_lt b 127) (b == 34) (b == 92) refl refl
  where
    plain : (b == 34) ≡ false → (b == 92) ≡ false → quoted_from Whole (b ∷ rest) ≡ option_map (λ more. b ∷ more) (quoted_from Whole rest)
    plain e f =
        ap (λ (t : Bool). if t then quoted_from Closed rest else (if b == 92 then quoted_from Escaping rest else option_map (λ more. b ∷ more) (quoted_from Whole rest))) e
        ∙ ap (λ (t : Bool). if t then quoted_from Escaping rest else option_map (λ more. b ∷ more) (quoted_from Whole rest)) f

    escaped_byte : quoted_from Whole (92 ∷ 120 ∷ hex_of b ++ rest) ≡ option_map (λ more. b ∷ more) (quoted_from Whole rest)
    escaped_byte =
        let same : b / 16 * 16 + b % 16 ≡ b = omega arith in
        ap (option_and_then (λ high. quoted_from (LastDigit high) (digit (b % 16) ∷ rest))) (hex-digit (b / 16) (omega arith))
        ∙ ap (λ (o : Option ℕ). both (λ low bytes. (b / 16 * 16 + low) ∷ bytes) o (quoted_from Whole rest)) (hex-digit (b % 16) (omega arith))
        ∙ ap (λ (n : ℕ). option_map (λ more. n ∷ more) (quoted_from Whole rest)) same

    go : (s m u : Bool) → (b == 34) ≡ m → (b == 92) ≡ u → quoted_from Whole ((if s && not (m || u) then b ∷ [] else (92 ∷ 120 ∷ hex_of b)) ++ rest) ≡ option_map (λ more. b ∷ more) (quoted_from Whole rest)
    go true false false e f = plain e f
    go true false true e f = escaped_byte
    go true true u e f = escaped_byte
    go false m u e f = escaped_byte

pub quoted-read : (bytes : List ℕ) → AreBytes bytes → quoted_from Whole (flat_map quoted_byte bytes ++ 34 ∷ []) ≡ Some bytes
unfolding quoted_from
quoted-read [] h = refl
quoted-read (b ∷ bytes) h =
    let parts : FirstByte b bytes = first-byte b bytes h in
    ap (quoted_from Whole) (append_assoc (quoted_byte b) (flat_map quoted_byte bytes) (34 ∷ []))
    ∙ one-quoted b (flat_map quoted_byte bytes ++ 34 ∷ []) parts.first
    ∙ ap (option_map (λ more. b ∷ more)) (quoted-read bytes parts.more)

unbroken-byte : (b : ℕ) → AreFree is_break (quoted_byte b)
unbroken-byte b = go (nat_le 32 b) (nat_lt b 127) (not ((b == 34) || (b == 92))) refl
  where
    go : (s t u : Bool) → nat_le 32 b ≡ s → AreFree is_break (if (s && t) && u then b ∷ [] else (92 ∷ 120 ∷ hex_of b))
    go true true true e = let low : 32 ≤ b = grind (arith, nat_tests) in (no-break b (omega arith), tt)
    go true true false e = (refl, (refl, (solid-hex b).unbroken))
    go true false u e = (refl, (refl, (solid-hex b).unbroken))
    go false t u e = (refl, (refl, (solid-hex b).unbroken))

unbroken-flat : (bytes : List ℕ) → AreFree is_break (flat_map quoted_byte bytes)
unbroken-flat [] = tt
unbroken-flat (b ∷ bytes) = free-append is_break (quoted_byte b) (flat_map quoted_byte bytes) (unbroken-byte b) (unbroken-flat bytes)

pub quoted-unbroken : (bytes : List ℕ) → AreFree is_break (quoted bytes)
quoted-unbroken bytes = (refl, free-append is_break (flat_map quoted_byte bytes) (34 ∷ []) (unbroken-flat bytes) (refl, tt))

-- ---- as numbers

pub bytes-drop : (n : ℕ) (bytes : List ℕ) → AreBytes bytes → AreBytes (drop n bytes)
bytes-drop zero bytes h = h
bytes-drop (suc n) [] h = refl
bytes-drop (suc n) (b ∷ bytes) h = bytes-drop n bytes (first-byte b bytes h).more

-- one to three bytes, as a number and back
pub record IsBack (size : ℕ) (bytes : List ℕ) : Type 0 where
  pub low : big_number size bytes ≤ 256 ^ size - 1
  pub small : big_number size bytes < 2 ^ 64
  pub back : big_bytes size (big_number size bytes) ++ drop size bytes ≡ bytes

three : {a b c x y z : ℕ} (rest : List ℕ) → x ≡ a → y ≡ b → z ≡ c → ◌≡◌ {A = List ℕ} (x ∷ y ∷ z ∷ rest) (a ∷ b ∷ c ∷ rest)
three rest e f g = cc

pub big-back : (size : ℕ) (bytes : List ℕ) → 1 ≤ size → size ≤ 3 → size ≤ length bytes → AreBytes bytes → IsBack size bytes
big-back zero bytes one few there h = absurd (omega arith)
big-back (suc zero) [] one few there h = absurd (omega arith)
big-back (suc zero) (a ∷ rest) one few there h =
    let first : a < 256 = (first-byte a rest h).first in
    let same : (a * 256 ^ 0 + 0) % 256 ≡ a = omega arith in
    record { low = omega arith; small = omega arith; back = ap (λ (x : ℕ). x ∷ rest) same }
big-back (suc (suc zero)) [] one few there h = absurd (omega arith)
big-back (suc (suc zero)) (a ∷ []) one few there h = absurd (omega arith)
big-back (suc (suc zero)) (a ∷ b ∷ rest) one few there h =
    let p : FirstByte a (b ∷ rest) = first-byte a (b ∷ rest) h in
    let first : a < 256 = p.first in
    let second : b < 256 = (first-byte b rest p.more).first in
    let high : (a * 256 ^ 1 + (b * 256 ^ 0 + 0)) / 256 % 256 ≡ a = omega arith in
    let less : (a * 256 ^ 1 + (b * 256 ^ 0 + 0)) % 256 ≡ b = omega arith in
    record { low = omega arith; small = omega arith; back = ap (λ (x : ℕ). x ∷ (a * 256 ^ 1 + (b * 256 ^ 0 + 0)) % 256 ∷ rest) high ∙ ap (λ (x : ℕ). a ∷ x ∷ rest) less }
big-back (suc (suc (suc zero))) [] one few there h = absurd (omega arith)
big-back (suc (suc (suc zero))) (a ∷ []) one few there h = absurd (omega arith)
big-back (suc (suc (suc zero))) (a ∷ b ∷ []) one few there h = absurd (omega arith)
big-back (suc (suc (suc zero))) (a ∷ b ∷ c ∷ rest) one few there h =
    let p : FirstByte a (b ∷ c ∷ rest) = first-byte a (b ∷ c ∷ rest) h in
    let q : FirstByte b (c ∷ rest) = first-byte b (c ∷ rest) p.more in
    let first : a < 256 = p.first in
    let second : b < 256 = q.first in
    let third : c < 256 = (first-byte c rest q.more).first in
    let high : (a * 256 ^ 2 + (b * 256 ^ 1 + (c * 256 ^ 0 + 0))) / 65536 % 256 ≡ a = omega arith in
    let middle : (a * 256 ^ 2 + (b * 256 ^ 1 + (c * 256 ^ 0 + 0))) / 256 % 256 ≡ b = omega arith in
    let less : (a * 256 ^ 2 + (b * 256 ^ 1 + (c * 256 ^ 0 + 0))) % 256 ≡ c = omega arith in
    record { low = omega arith; small = omega arith; back = three rest high middle less }
big-back (suc (suc (suc (suc size)))) bytes one few there h = absurd (omega arith)

abbrev pub AreSizes : List ℕ → Type 0
AreSizes sizes = AllByRecursion (λ s. (1 ≤ s) × (s ≤ 3)) sizes

pub numbers-spaced : (sizes bytes : List ℕ) → IsSpaced (numbers_text sizes bytes)
numbers-spaced [] bytes = tt
numbers-spaced (size ∷ sizes) bytes = refl

pub numbers-read : (sizes bytes : List ℕ) → AreSizes sizes → AreBytes bytes → length bytes ≡ sum_of sizes → numbers_said sizes (words (numbers_text sizes bytes)) ≡ Some bytes
numbers-read [] [] s h e = refl
numbers-read [] (b ∷ bytes) s h e = absurd (omega arith)
numbers-read (size ∷ sizes) bytes s h e =
    let is : IsBack size bytes = big-back size bytes s.0.0 s.0.1 (omega arith) h in
    let left : length (drop size bytes) ≡ sum_of sizes = length-drop size bytes ∙ (let k : length bytes - size ≡ sum_of sizes = omega arith in k) in
    let rest : List ℕ = numbers_text sizes (drop size bytes) in
    ap (numbers_said (size ∷ sizes)) (words-blank 32 (decimal (big_number size bytes) ++ numbers_text sizes (drop size bytes)) refl ∙ words-then (decimal (big_number size bytes)) (numbers_text sizes (drop size bytes)) (word-decimal (big_number size bytes) is.small) (numbers-spaced sizes (drop size bytes)))
    ∙ ap (λ (o : Option ℕ). both (λ n more. big_bytes size n ++ more) o (numbers_said sizes (words (numbers_text sizes (drop size bytes))))) (up-to-decimal (256 ^ size - 1) (big_number size bytes) is.small is.low)
    ∙ ap (λ (o : Option (List ℕ)). option_map (λ more. big_bytes size (big_number size bytes) ++ more) o) (numbers-read sizes (drop size bytes) s.1 (bytes-drop size bytes h) left)
    ∙ ap (λ (xs : List ℕ). Some xs) is.back

pub numbers-unbroken : (sizes bytes : List ℕ) → AreSizes sizes → AreBytes bytes → length bytes ≡ sum_of sizes → AreFree is_break (numbers_text sizes bytes)
numbers-unbroken [] bytes s h e = tt
numbers-unbroken (size ∷ sizes) bytes s h e =
    let is : IsBack size bytes = big-back size bytes s.0.0 s.0.1 (omega arith) h in
    let left : length (drop size bytes) ≡ sum_of sizes = length-drop size bytes ∙ (let k : length bytes - size ≡ sum_of sizes = omega arith in k) in
    (refl, free-append is_break (decimal (big_number size bytes)) (numbers_text sizes (drop size bytes)) (solid-decimal (big_number size bytes) is.small).unbroken (numbers-unbroken sizes (drop size bytes) s.1 (bytes-drop size bytes h) left))
