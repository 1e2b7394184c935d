-- Worked rows: Which notes sound after a few messages.
use Rattle.std.specs.Prelude.{◌≡◌, ℕ, Bool, true, false, List, [], ◌∷◌}
use Rattle.seq_state.specs.declared.log.LogEntry.{LogEntry}
use Rattle.seq_state.specs.declared.log.LogEntry.TheVariants.{Delivered, Replied}
use Rattle.seq_state.specs.declared.log.Reply.TheVariants.{Done}
use Rattle.seq_state.specs.Heard.{port_at}
use Rattle.sounding_notes.specs.Sounding.{sounds, note_at}

-- a message that comes to a port of client 128
abbrev pub at_port : ℕ → List ℕ → LogEntry
at_port port message =
    Delivered (record { moment = 0; target = port_at 128 port; message = message })

-- whether this note sounds at port 0 of client 128 after these
abbrev pub sounds_here : ℕ → ℕ → List LogEntry → Bool
sounds_here channel note log = sounds log (note_at (port_at 128 0) channel note)

-- whether middle C sounds there on the first channel
abbrev pub middle_c_sounds : List LogEntry → Bool
middle_c_sounds log = sounds_here 0 60 log

-- 90 3C 40, and 80 3C 40
abbrev pub on : LogEntry
on = at_port 0 (0x90 ∷ 0x3C ∷ 0x40 ∷ [])

abbrev pub off : LogEntry
off = at_port 0 (0x80 ∷ 0x3C ∷ 0x40 ∷ [])

pub record WorkedNotes : Type 0 where
  pub nothing : middle_c_sounds [] ≡ false
  pub started : middle_c_sounds (on ∷ []) ≡ true
  pub ended : middle_c_sounds (on ∷ off ∷ []) ≡ false
  -- one note off ends a note that was started twice
  pub twice : middle_c_sounds (on ∷ on ∷ off ∷ []) ≡ false
  pub stray : middle_c_sounds (off ∷ []) ≡ false
  -- the last of them counts
  pub off_first : middle_c_sounds (off ∷ on ∷ []) ≡ true
  pub again : middle_c_sounds (on ∷ off ∷ on ∷ []) ≡ true
  -- 90 3C 00
  pub velocity_0 : middle_c_sounds (on ∷ at_port 0 (0x90 ∷ 0x3C ∷ 0x00 ∷ []) ∷ []) ≡ false
  -- 80 3D 40, 81 3C 40, and a note off at port 1
  pub another_note : middle_c_sounds (on ∷ at_port 0 (0x80 ∷ 0x3D ∷ 0x40 ∷ []) ∷ []) ≡ true
  pub another_channel : middle_c_sounds (on ∷ at_port 0 (0x81 ∷ 0x3C ∷ 0x40 ∷ []) ∷ []) ≡ true
  pub another_port : middle_c_sounds (on ∷ at_port 1 (0x80 ∷ 0x3C ∷ 0x40 ∷ []) ∷ []) ≡ true
  -- B0 78 00, B0 7B 00, B0 7C 00 and B0 7F 00 end all notes of the channel
  pub all_sound_off : middle_c_sounds (on ∷ at_port 0 (0xB0 ∷ 0x78 ∷ 0x00 ∷ []) ∷ []) ≡ false
  pub all_notes_off : middle_c_sounds (on ∷ at_port 0 (0xB0 ∷ 0x7B ∷ 0x00 ∷ []) ∷ []) ≡ false
  pub omni_off : middle_c_sounds (on ∷ at_port 0 (0xB0 ∷ 0x7C ∷ 0x00 ∷ []) ∷ []) ≡ false
  pub poly_on : middle_c_sounds (on ∷ at_port 0 (0xB0 ∷ 0x7F ∷ 0x00 ∷ []) ∷ []) ≡ false
  -- B1 7B 00 ends those of another, B0 79 00 and B0 7A 00 end none
  pub others_off : middle_c_sounds (on ∷ at_port 0 (0xB1 ∷ 0x7B ∷ 0x00 ∷ []) ∷ []) ≡ true
  pub controllers : middle_c_sounds (on ∷ at_port 0 (0xB0 ∷ 0x79 ∷ 0x00 ∷ []) ∷ []) ≡ true
  pub local_off : middle_c_sounds (on ∷ at_port 0 (0xB0 ∷ 0x7A ∷ 0x00 ∷ []) ∷ []) ≡ true
  -- FF ends all notes of its port
  pub reset : middle_c_sounds (on ∷ at_port 0 (0xFF ∷ []) ∷ []) ≡ false
  pub reset_of_all : sounds_here 15 127
      (at_port 0 (0x9F ∷ 0x7F ∷ 0x01 ∷ []) ∷ at_port 0 (0xFF ∷ []) ∷ []) ≡ false
  pub reset_elsewhere : middle_c_sounds (on ∷ at_port 1 (0xFF ∷ []) ∷ []) ≡ true
  -- F8, F0 3C F7 and a reply concern no note
  pub clock : middle_c_sounds (on ∷ at_port 0 (0xF8 ∷ []) ∷ []) ≡ true
  pub exclusive : middle_c_sounds (on ∷ at_port 0 (0xF0 ∷ 0x3C ∷ 0xF7 ∷ []) ∷ []) ≡ true
  pub reply : middle_c_sounds (on ∷ Replied 0 0 128 Done ∷ []) ≡ true
