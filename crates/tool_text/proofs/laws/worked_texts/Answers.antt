use Rattle.std.proofs.Common.{◌≡◌, ◌∙◌, ◌++◌, ◌∷◌, [], List, ℕ, refl, ap}
use Rattle.std.specs.List.{flat_map}
use Rattle.midi_wire.specs.Messages.{begins}
use Rattle.midi_wire.specs.Readings.{reading}
use Rattle.midi_wire.specs.Writings.{wire_bytes}
use Rattle.text_forms.specs.Hex.{hex_line}
use Rattle.tool_text.specs.Rows.{note, notes_with_clock}
use Rattle.tool_text.specs.Thru.{thru_line}
use Rattle.tool_text.specs.Wire.{written_line}
use Rattle.tool_text.proofs.Passing.{thru_lines}
use Rattle.tool_text.proofs.laws.worked_texts.Goals as goal

note-read : reading note ≡ note ∷ []
unfolding reading begins
note-read = refl

notes-read : reading notes_with_clock ≡ note ∷ (0xF8 ∷ []) ∷ (0x90 ∷ 0x3E ∷ 0x40 ∷ []) ∷ []
unfolding reading begins
notes-read = refl

-- the text of wire, from the messages
abbrev of-wire : List (List ℕ) → List ℕ
of-wire messages = flat_map hex_line messages ++ written_line (wire_bytes messages)

pub returns : goal.returns
unfolding begins
returns c = record {
  thru = thru_lines note ∙ ap (flat_map thru_line) note-read;
  thru_running = thru_lines notes_with_clock ∙ ap (flat_map thru_line) notes-read;
  wire = ap of-wire note-read;
  wire_running = ap of-wire notes-read;
}
