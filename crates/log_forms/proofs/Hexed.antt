-- Bytes in hexadecimal, and the words that spell them.
use Rattle.std.proofs.Common.{◌≡◌, ◌<◌, ℕ, ◌+◌, ◌*◌, ◌/◌, ◌%◌, Bool, true, false, ◌&&◌, cond, Some, None, List, [], ◌∷◌, ◌++◌, length, map, refl, ap, ◌∙◌, sym, arith}
use Rattle.std.specs.List.{list_all, join_with_byte}
use Rattle.std.proofs.lemmas.List.Splits.{join_with_byte-slice_split}
use Rattle.std.proofs.lemmas.Bool.Decides.{nat_tests}
use Rattle.text_forms.specs.Hex.{digit, in_hex}
use Rattle.log_forms.specs.Lines.{words, is_space, is_hex_digit, is_hex_byte, digit_value, byte_of, bytes_of}
use Rattle.log_forms.proofs.Cut.{some_parts}

-- ---- tests

pub and_left : (a b : Bool) → a && b ≡ true → a ≡ true
and_left true b e = refl
and_left false b e = e

pub and_right : (a b : Bool) → a && b ≡ true → b ≡ true
and_right true b e = e
and_right false b e = absurd cc

-- ---- digits

pub digit_value-small : (h : ℕ) → is_hex_digit h ≡ true → digit_value h < 16
digit_value-small h e = grind (arith, nat_tests)

pub digit-digit_value : (h : ℕ) → is_hex_digit h ≡ true → digit (digit_value h) ≡ h
digit-digit_value h e = grind (arith, nat_tests)

-- ---- words of two digits

-- the word of a byte
abbrev pub hex_word : ℕ → List ℕ
hex_word b = digit (b / 16) ∷ digit (b % 16) ∷ []

two_digits : (h l : ℕ) → is_hex_digit h && is_hex_digit l ≡ true → hex_word (byte_of (h ∷ l ∷ [])) ≡ h ∷ l ∷ []
two_digits h l e =
    let high : is_hex_digit h ≡ true = and_left (is_hex_digit h) (is_hex_digit l) e in
    let low : is_hex_digit l ≡ true = and_right (is_hex_digit h) (is_hex_digit l) e in
    let a = digit_value-small h high in
    let b = digit_value-small l low in
    let first : (digit_value h * 16 + digit_value l) / 16 ≡ digit_value h = omega (arith, a, b) in
    let second : (digit_value h * 16 + digit_value l) % 16 ≡ digit_value l = omega (arith, a, b) in
    ap (λ n. digit n ∷ digit ((digit_value h * 16 + digit_value l) % 16) ∷ []) first
    ∙ ap (λ n. digit (digit_value h) ∷ digit n ∷ []) second
    ∙ ap (λ n. n ∷ digit (digit_value l) ∷ []) (digit-digit_value h high)
    ∙ ap (λ n. h ∷ n ∷ []) (digit-digit_value l low)

hex_word-byte_of : (w : List ℕ) → is_hex_byte w ≡ true → hex_word (byte_of w) ≡ w
hex_word-byte_of [] e = absurd cc
hex_word-byte_of (h ∷ []) e = absurd cc
hex_word-byte_of (h ∷ l ∷ []) e = two_digits h l e
hex_word-byte_of (h ∷ l ∷ x ∷ w) e = absurd cc

in_hex-join : (w : List ℕ) (ws : List (List ℕ)) → list_all is_hex_byte (w ∷ ws) ≡ true → in_hex (map byte_of (w ∷ ws)) ≡ join_with_byte 32 (w ∷ ws)
in_hex-join w [] e = hex_word-byte_of w (and_left (is_hex_byte w) true e)
in_hex-join w (v ∷ ws) e =
    let here = and_left (is_hex_byte w) (list_all is_hex_byte (v ∷ ws)) e in
    let more = and_right (is_hex_byte w) (list_all is_hex_byte (v ∷ ws)) e in
    ap (λ xs. xs ++ 32 ∷ in_hex (map byte_of (v ∷ ws))) (hex_word-byte_of w here)
    ∙ ap (λ xs. w ++ 32 ∷ xs) (in_hex-join v ws more)

in_hex-words : (ws : List (List ℕ)) → 0 < length ws → list_all is_hex_byte ws ≡ true → in_hex (map byte_of ws) ≡ join_with_byte 32 ws
in_hex-words [] h e = absurd (omega arith)
in_hex-words (w ∷ ws) h e = in_hex-join w ws e

-- the text whose words are the bytes
pub in_hex-text : (text : List ℕ) → list_all is_hex_byte (words text) ≡ true → in_hex (map byte_of (words text)) ≡ text
in_hex-text text e = in_hex-words (words text) (some_parts is_space text) e ∙ join_with_byte-slice_split 32 text

-- ---- what a text spells

pub bytes_of-some : (ws : List (List ℕ)) → 0 < length ws → list_all is_hex_byte ws ≡ true → Some (map byte_of ws) ≡ bytes_of ws
bytes_of-some [] h e = absurd (omega arith)
bytes_of-some (w ∷ ws) h e = ap (λ b. cond b (Some (map byte_of (w ∷ ws))) None) (sym e)

-- each word of a text that spells bytes is two digits
pub first_hex : (ws : List (List ℕ)) (w : List ℕ) (rest : List (List ℕ)) → ws ≡ w ∷ rest → list_all is_hex_byte ws ≡ true → is_hex_byte w ≡ true
first_hex ws w rest e all = and_left (is_hex_byte w) (list_all is_hex_byte rest) (ap (list_all is_hex_byte) (sym e) ∙ all)

pub rest_hex : (ws : List (List ℕ)) (w : List ℕ) (rest : List (List ℕ)) → ws ≡ w ∷ rest → list_all is_hex_byte ws ≡ true → list_all is_hex_byte rest ≡ true
rest_hex ws w rest e all = and_right (is_hex_byte w) (list_all is_hex_byte rest) (ap (list_all is_hex_byte) (sym e) ∙ all)
