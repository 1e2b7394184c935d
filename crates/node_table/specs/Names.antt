-- Definition: Names of clients and ports.
use Rattle.std.specs.Prelude.{ℕ, List, length, Bool, ◌&&◌, nat_le}
use Rattle.std.specs.List.{list_all}

abbrev pub has_length : List ℕ → Bool
has_length name = nat_le 1 (length name) && nat_le (length name) 32

-- a visible character of ASCII
abbrev pub is_visible : ℕ → Bool
is_visible b = nat_le 33 b && nat_le b 126

-- 1 to 32 visible characters of ASCII
abbrev pub is_name : List ℕ → Bool
is_name name = has_length name && list_all is_visible name
