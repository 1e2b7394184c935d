-- Definition: A text that stays in one line.
use Rattle.std.specs.Prelude.{ℕ, if◌then◌else◌, List, encode_utf8, encode_utf8_all}
use Rattle.std.specs.List.{flat_map}
use Rattle.std.specs.Char.{is_control}
use Rattle.std.specs.Char.Escape.{escape_default}
use Rattle.std.specs.Str.{chars}

-- a control character as it is written with a backslash, and each other as it is
abbrev pub escaped_char : ℕ → List ℕ
escaped_char c = if is_control c then encode_utf8_all (escape_default c) else encode_utf8 c

-- a text without control characters
abbrev pub escaped_text : List ℕ → List ℕ
escaped_text text = flat_map escaped_char (chars text)
