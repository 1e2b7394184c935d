-- Worked rows: What the tools print of a note, and of two with running status and a clock between
-- them.
use Rattle.std.specs.Prelude.{◌≡◌, ℕ, List, [], ◌∷◌, codes}
use Rattle.tool_text.specs.Thru.{thru_text}
use Rattle.tool_text.specs.Wire.{wire_text}

abbrev pub note : List ℕ
note = 0x90 ∷ 0x3C ∷ 0x40 ∷ []

abbrev pub notes_with_clock : List ℕ
notes_with_clock = 0x90 ∷ 0x3C ∷ 0x40 ∷ 0xF8 ∷ 0x3E ∷ 0x40 ∷ []

pub record WorkedTexts : Type 0 where
  pub thru : thru_text note ≡ codes "0 129:p0 90 3C 40\n"
  pub thru_running : thru_text notes_with_clock
      ≡ codes "0 129:p0 90 3C 40\n0 129:p0 F8\n0 129:p0 90 3E 40\n"
  pub wire : wire_text note ≡ codes "90 3C 40\nwritten 90 3C 40\n"
  pub wire_running : wire_text notes_with_clock
      ≡ codes "90 3C 40\nF8\n90 3E 40\nwritten 90 3C 40 F8 3E 40\n"
