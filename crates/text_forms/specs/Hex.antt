-- Definition: Bytes in hexadecimal.
use Rattle.std.specs.Prelude.{ℕ, ◌+◌, ◌/◌, ◌%◌, nat_lt, if◌then◌else◌, List, [], ◌∷◌, ◌++◌}
use Rattle.std.specs.List.{flat_map}

-- 0 to 9 and A to F
abbrev pub digit : ℕ → ℕ
digit n = if nat_lt n 10 then 48 + n else 55 + n

-- a space and two digits for each byte
abbrev pub spaced_hex : List ℕ → List ℕ
spaced_hex bytes = flat_map (λ b. 32 ∷ digit (b / 16) ∷ digit (b % 16) ∷ []) bytes

-- bytes with one space between
abbrev pub in_hex : List ℕ → List ℕ
in_hex [] = []
in_hex (b ∷ bytes) = digit (b / 16) ∷ digit (b % 16) ∷ spaced_hex bytes

-- the same on a line
abbrev pub hex_line : List ℕ → List ℕ
hex_line bytes = in_hex bytes ++ 10 ∷ []
