-- Worked rows: What the lenient grammar says of a few files that the strict one refuses, and how it
-- is told.
use Rattle.std.specs.Prelude.{◌≡◌, ℕ, List, [], ◌∷◌, ◌++◌, Err, codes}
use Rattle.smf_grammar.specs.declared.fault.SmfFault.{SmfFault}
use Rattle.smf_grammar.specs.declared.fault.SmfFault.TheVariants.{NoStatus, BadData}
use Rattle.smf_grammar.specs.Pairs.{TrackEvent, Voice, Exclusive, Meta, Pair}
use Rattle.smf_grammar.specs.Files.{MidiFile}
use Rattle.smf_grammar.specs.Written.{written_file}
use Rattle.smf_grammar.specs.Reading.{file_reading}
use Rattle.smf_grammar.specs.Rows.{header, track_of_length}
use Rattle.smf_mend.specs.Lenient.{IsLenientFile, LenientFault}
use Rattle.smf_mend.specs.Forgiving.{forgives_status, forgives_data, file_places}
use Rattle.smf_mend.specs.Told.{forgiven_text}
use Rattle.smf_mend.specs.declared.told.Lenience.TheVariants.{RunningStatus, ProgramChange}

-- format 0, 96 ticks per quarter note, and a track of so many bytes
abbrev pub one_track : ℕ → List ℕ → List ℕ
one_track size content = header 0 96 ++ track_of_length size content

abbrev pub at_delta : ℕ → TrackEvent → Pair
at_delta delta event = record { delta = delta; event = event }

abbrev pub one_track_file : List Pair → MidiFile
one_track_file pairs = record { format = 0; division = 96; tracks = pairs ∷ [] }

-- the strict grammar refuses the bytes with this fault; leniently they are this file, with this
-- forgiven at these places; and so it is written
pub record IsForgiven (bytes : List ℕ) (x : SmfFault) (f : MidiFile)
    (statuses high_data mended : List ℕ) : Type 0 where
  pub refused : file_reading bytes ≡ Err x
  pub lenient : IsLenientFile bytes f
  pub status_places : file_places forgives_status bytes lenient ≡ statuses
  pub data_places : file_places forgives_data bytes lenient ≡ high_data
  pub written : written_file f ≡ mended

-- a note on, a text, and the note off with no status; so also behind an exclusive event
abbrev pub OverOthers : Type 0
OverOthers =
    IsForgiven (one_track 23
    (0x00 ∷ 0x90 ∷ 0x3C ∷ 0x40 ∷ 0x00 ∷ 0xFF ∷ 0x01 ∷ 0x01 ∷ 0x61 ∷ 0x60 ∷ 0x3C ∷ 0x00
    ∷ 0x00 ∷ 0xF0 ∷ 0x01 ∷ 0xF7 ∷ 0x00 ∷ 0x3E ∷ 0x40 ∷ 0x00 ∷ 0xFF ∷ 0x2F ∷ 0x00 ∷ []))
    (NoStatus 31)
    (one_track_file (at_delta 0 (Voice 0x90 (0x3C ∷ 0x40 ∷ [])) ∷ at_delta 0 (Meta 1 (0x61 ∷ []))
    ∷ at_delta 96 (Voice 0x90 (0x3C ∷ 0x00 ∷ [])) ∷ at_delta 0 (Exclusive (0xF7 ∷ []))
    ∷ at_delta 0 (Voice 0x90 (0x3E ∷ 0x40 ∷ [])) ∷ at_delta 0 (Meta 0x2F []) ∷ []))
    (31 ∷ 38 ∷ []) []
    (one_track 25
    (0x00 ∷ 0x90 ∷ 0x3C ∷ 0x40 ∷ 0x00 ∷ 0xFF ∷ 0x01 ∷ 0x01 ∷ 0x61 ∷ 0x60 ∷ 0x90 ∷ 0x3C ∷ 0x00
    ∷ 0x00 ∷ 0xF0 ∷ 0x01 ∷ 0xF7 ∷ 0x00 ∷ 0x90 ∷ 0x3E ∷ 0x40 ∷ 0x00 ∷ 0xFF ∷ 0x2F ∷ 0x00 ∷ []))

-- a program change whose data byte is 85, behind a delta time of two bytes, and one by running
-- status
abbrev pub HighPrograms : Type 0
HighPrograms =
    IsForgiven (one_track 10
    (0x81 ∷ 0x00 ∷ 0xC0 ∷ 0x85 ∷ 0x00 ∷ 0x06 ∷ 0x00 ∷ 0xFF ∷ 0x2F ∷ 0x00 ∷ []))
    (BadData 22)
    (one_track_file (at_delta 128 (Voice 0xC0 (0x05 ∷ [])) ∷ at_delta 0 (Voice 0xC0 (0x06 ∷ []))
    ∷ at_delta 0 (Meta 0x2F []) ∷ []))
    [] (22 ∷ [])
    (one_track 10
    (0x81 ∷ 0x00 ∷ 0xC0 ∷ 0x05 ∷ 0x00 ∷ 0x06 ∷ 0x00 ∷ 0xFF ∷ 0x2F ∷ 0x00 ∷ []))

-- what is not forgiven: data before any status, and bit 7 in a control change
pub record NotForgiven : Type 0 where
  pub no_status : LenientFault
      (one_track 7 (0x00 ∷ 0x3C ∷ 0x40 ∷ 0x00 ∷ 0xFF ∷ 0x2F ∷ 0x00 ∷ [])) (NoStatus 22)
  pub control : LenientFault
      (one_track 8 (0x00 ∷ 0xB0 ∷ 0x07 ∷ 0x85 ∷ 0x00 ∷ 0xFF ∷ 0x2F ∷ 0x00 ∷ [])) (BadData 22)

-- what was forgiven, in words
pub record ToldForgiven : Type 0 where
  pub status : forgiven_text RunningStatus (record { times = 3; first = 6977 })
      ≡ codes "forgiven 3 running status 6977"
  pub program : forgiven_text ProgramChange (record { times = 1; first = 22 })
      ≡ codes "forgiven 1 program change 22"
