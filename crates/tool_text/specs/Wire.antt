-- Definition: A stream as it is read and written back.
use Rattle.std.specs.Prelude.{◌≡◌, ℕ, false, List, [], ◌∷◌, ◌++◌, codes, Option}
use Rattle.midi_wire.specs.Parsing.{Parsing}
use Rattle.midi_wire.specs.Readings.{reading, rest}
use Rattle.midi_wire.specs.Writings.{wire_bytes, status_in_force}
use Rattle.text_forms.specs.Hex.{spaced_hex, hex_line}
use Rattle.tool_text.specs.Stream.{message_lines}

-- the last line, with the bytes that were written
abbrev pub written_line : List ℕ → List ℕ
written_line bytes = codes "written" ++ spaced_hex bytes ++ 10 ∷ []

-- what the messages of a stream are written as in one stream, on a line
abbrev pub wire_ending : List ℕ → List ℕ
wire_ending bytes = written_line (wire_bytes (reading bytes))

-- a line for each message of the stream, and then the last line
abbrev pub wire_text : List ℕ → List ℕ
wire_text bytes = message_lines hex_line bytes ++ wire_ending bytes

-- the parser was fed these bytes, and their messages were written back
pub record IsCopied (parsing : Parsing) (status : Option ℕ) (back read : List ℕ) : Type 0 where
  pub parsed : parsing ≡ record { rest = rest read; failed = false }
  pub in_force : status ≡ status_in_force (reading read)
  pub written_back : back ≡ wire_bytes (reading read)
