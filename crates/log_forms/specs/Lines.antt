-- Definition: What a log is cut into: lines, and words.
use Rattle.std.specs.Prelude.{ℕ, ◌+◌, ◌-◌, ◌*◌, ◌==◌, nat_le, nat_lt, Bool, true, false, not, ◌&&◌, ◌||◌, if◌then◌else◌, List, [], ◌∷◌, Option, Some, None, map}
use Rattle.std.specs.List.{slice_split, list_all}
use Rattle.std.specs.Str.{byte}

-- ---- lines

abbrev pub is_line_feed : ℕ → Bool
is_line_feed b = b == 10

abbrev pub is_empty : List ℕ → Bool
is_empty [] = true
is_empty (b ∷ bytes) = false

-- what stands behind the last line feed is a line only where something does
abbrev pub without_empty_last : List (List ℕ) → List (List ℕ)
without_empty_last [] = []
without_empty_last (last ∷ []) = if is_empty last then [] else last ∷ []
without_empty_last (line ∷ next ∷ more) = line ∷ without_empty_last (next ∷ more)

-- the lines of a text, without their line feeds
abbrev pub lines : List ℕ → List (List ℕ)
lines text = without_empty_last (slice_split is_line_feed text)

-- ---- words

abbrev pub is_space : ℕ → Bool
is_space b = b == 32

-- the words of a line, between single spaces
abbrev pub words : List ℕ → List (List ℕ)
words line = slice_split is_space line

abbrev pub is_none_left : List (List ℕ) → Bool
is_none_left [] = true
is_none_left (w ∷ ws) = false

-- ---- what a word may be

abbrev pub is_digit : ℕ → Bool
is_digit b = nat_le 48 b && nat_le b 57

-- decimal digits, without zeros in front
abbrev pub is_number : List ℕ → Bool
is_number [] = false
is_number (b ∷ []) = is_digit b
is_number (b ∷ c ∷ bytes) = not (b == byte "0") && list_all is_digit (b ∷ c ∷ bytes)

abbrev pub is_upper : ℕ → Bool
is_upper b = nat_le 65 b && nat_le b 90

abbrev pub is_lower : ℕ → Bool
is_lower b = nat_le 97 b && nat_le b 122

-- a letter, a digit, or a hyphen
abbrev pub is_plain_byte : ℕ → Bool
is_plain_byte b = is_digit b || (is_upper b || (is_lower b || b == byte "-"))

abbrev pub is_plain : List ℕ → Bool
is_plain word = list_all is_plain_byte word

-- ---- bytes in hexadecimal

-- 0 to 9 and A to F
abbrev pub is_hex_digit : ℕ → Bool
is_hex_digit b = (nat_le 48 b && nat_le b 57) || (nat_le 65 b && nat_le b 70)

abbrev pub digit_value : ℕ → ℕ
digit_value b = if nat_lt b 65 then b - 48 else b - 55

abbrev pub is_hex_byte : List ℕ → Bool
is_hex_byte (high ∷ low ∷ []) = is_hex_digit high && is_hex_digit low
is_hex_byte _ = false

abbrev pub byte_of : List ℕ → ℕ
byte_of (high ∷ low ∷ []) = digit_value high * 16 + digit_value low
byte_of _ = 0

-- the bytes that one word or more spell, two digits each
abbrev pub bytes_of : List (List ℕ) → Option (List ℕ)
bytes_of [] = None
bytes_of (word ∷ words) =
    if list_all is_hex_byte (word ∷ words) then Some (map byte_of (word ∷ words)) else None
