-- Worked rows: What is printed of meta events, of events of each kind, and of a whole file, without
-- places and with them.
use Rattle.std.specs.Prelude.{◌≡◌, ℕ, true, List, [], ◌∷◌, ◌++◌, codes}
use Rattle.smf_grammar.specs.Pairs.{TrackEvent, Voice, Exclusive, Escape, Meta, Pair}
use Rattle.smf_grammar.specs.Files.{MidiFile, IsFile}
use Rattle.smf_text.specs.AllTexts.{meta_text, event_text, all_text}
use Rattle.smf_text.specs.PlacedTexts.{placed_text}

-- ---- meta events

-- each type that has a name, with the bytes that it has
pub record NamedMetas : Type 0 where
  pub sequence : meta_text 0x00 (0x01 ∷ 0x02 ∷ []) ≡ codes "sequence 258"
  pub text : meta_text 0x01 (codes "Trio") ≡ codes "text \"Trio\""
  pub copyright : meta_text 0x02 (codes "(C) 1996") ≡ codes "copyright \"(C) 1996\""
  pub name : meta_text 0x03 (codes "Piano & Bass") ≡ codes "name \"Piano & Bass\""
  pub instrument : meta_text 0x04 (codes "Oboe") ≡ codes "instrument \"Oboe\""
  pub lyric : meta_text 0x05 (codes "la-") ≡ codes "lyric \"la-\""
  pub marker : meta_text 0x06 (codes "Verse 1") ≡ codes "marker \"Verse 1\""
  pub cue : meta_text 0x07 (codes "Car crashes") ≡ codes "cue \"Car crashes\""
  pub program : meta_text 0x08 (codes "Strings") ≡ codes "program \"Strings\""
  pub device : meta_text 0x09 (codes "Out 2") ≡ codes "device \"Out 2\""
  pub channel : meta_text 0x20 (0x0F ∷ []) ≡ codes "channel 15"
  pub port : meta_text 0x21 (0x03 ∷ []) ≡ codes "port 3"
  pub end : meta_text 0x2F [] ≡ codes "end"
  pub tempo : meta_text 0x51 (0x07 ∷ 0xA1 ∷ 0x20 ∷ []) ≡ codes "tempo 500000"
  pub smpte : meta_text 0x54 (0x61 ∷ 0x02 ∷ 0x3B ∷ 0x1D ∷ 0x63 ∷ [])
      ≡ codes "smpte 97 2 59 29 99"
  pub time : meta_text 0x58 (0x06 ∷ 0x03 ∷ 0x24 ∷ 0x08 ∷ []) ≡ codes "time 6 3 36 8"
  pub key : meta_text 0x59 (0xFD ∷ 0x00 ∷ []) ≡ codes "key -3 0"
  pub sharps : meta_text 0x59 (0x07 ∷ 0x01 ∷ []) ≡ codes "key 7 1"
  pub most_sharps : meta_text 0x59 (0x7F ∷ 0x00 ∷ []) ≡ codes "key 127 0"
  pub most_flats : meta_text 0x59 (0x80 ∷ 0xFF ∷ []) ≡ codes "key -128 255"
  pub sequencer : meta_text 0x7F (0x00 ∷ 0x00 ∷ 0x41 ∷ 0xF7 ∷ [])
      ≡ codes "sequencer 00 00 41 F7"

-- a length that the type has not, and types that have no name
pub record PlainMetas : Type 0 where
  pub sequence : meta_text 0x00 [] ≡ codes "meta 00"
  pub channel : meta_text 0x20 (0x00 ∷ 0x01 ∷ []) ≡ codes "meta 20 00 01"
  pub port : meta_text 0x21 [] ≡ codes "meta 21"
  pub end : meta_text 0x2F (0x00 ∷ []) ≡ codes "meta 2F 00"
  pub tempo : meta_text 0x51 (0x07 ∷ 0xA1 ∷ []) ≡ codes "meta 51 07 A1"
  pub long_tempo : meta_text 0x51 (0x00 ∷ 0x07 ∷ 0xA1 ∷ 0x20 ∷ []) ≡ codes "meta 51 00 07 A1 20"
  pub smpte : meta_text 0x54 (0x61 ∷ 0x02 ∷ 0x3B ∷ 0x1D ∷ []) ≡ codes "meta 54 61 02 3B 1D"
  pub time : meta_text 0x58 (0x04 ∷ 0x02 ∷ []) ≡ codes "meta 58 04 02"
  pub key : meta_text 0x59 (0xFD ∷ []) ≡ codes "meta 59 FD"
  pub text_of_no_name : meta_text 0x0A (codes "A") ≡ codes "meta 0A 41"
  pub other : meta_text 0x60 (0x01 ∷ 0x02 ∷ []) ≡ codes "meta 60 01 02"
  pub none : meta_text 0x7E [] ≡ codes "meta 7E"

-- any number of bytes between quotation marks, and none; the bytes that are escaped, and those next
-- to them that are not
pub record QuotedMetas : Type 0 where
  pub empty : meta_text 0x01 [] ≡ codes "text \"\""
  pub controls : meta_text 0x01 (0x00 ∷ 0x0A ∷ 0x1F ∷ 0x20 ∷ 0x21 ∷ [])
      ≡ codes "text \"\\x00\\x0A\\x1F !\""
  pub quotation_mark : meta_text 0x01 (0x21 ∷ 0x22 ∷ 0x23 ∷ []) ≡ codes "text \"!\\x22#\""
  pub backslash : meta_text 0x01 (0x5B ∷ 0x5C ∷ 0x5D ∷ []) ≡ codes "text \"[\\x5C]\""
  pub high : meta_text 0x01 (0x7D ∷ 0x7E ∷ 0x7F ∷ 0x80 ∷ 0xE9 ∷ 0xFF ∷ [])
      ≡ codes "text \"}~\\x7F\\x80\\xE9\\xFF\""
  pub sequencer : meta_text 0x7F [] ≡ codes "sequencer"

-- ---- events

pub record KindsOfEvents : Type 0 where
  pub note : event_text (Voice 0x90 (0x3C ∷ 0x40 ∷ [])) ≡ codes " 90 3C 40"
  pub program : event_text (Voice 0xC5 (0x07 ∷ [])) ≡ codes " C5 07"
  pub exclusive : event_text (Exclusive (0x7E ∷ 0x7F ∷ 0x09 ∷ 0x01 ∷ 0xF7 ∷ []))
      ≡ codes " F0 7E 7F 09 01 F7"
  pub first_part : event_text (Exclusive (0x43 ∷ 0x12 ∷ [])) ≡ codes " F0 43 12"
  pub empty : event_text (Exclusive []) ≡ codes " F0"
  pub last_part : event_text (Escape (0x00 ∷ 0xF7 ∷ [])) ≡ codes " F7 00 F7"
  pub escape : event_text (Escape (0xF3 ∷ 0x01 ∷ [])) ≡ codes " F7 F3 01"
  pub end : event_text (Meta 0x2F []) ≡ codes " end"

-- ---- a file

-- two tracks with a chunk of another type between them and a byte after them; of the second note
-- the status is left out
abbrev pub example : List ℕ
example =
    codes "MThd" ++ 0x00 ∷ 0x00 ∷ 0x00 ∷ 0x06 ∷ 0x00 ∷ 0x01 ∷ 0x00 ∷ 0x02 ∷ 0x01 ∷ 0xE0 ∷ []
    ++ codes "MTrk" ++ 0x00 ∷ 0x00 ∷ 0x00 ∷ 0x2A ∷ []
    ++ 0x00 ∷ 0xFF ∷ 0x03 ∷ 0x0C ∷ codes "Piano & Bass"
    ++ 0x00 ∷ 0xFF ∷ 0x51 ∷ 0x03 ∷ 0x07 ∷ 0xA1 ∷ 0x20 ∷ []
    ++ 0x00 ∷ 0xFF ∷ 0x58 ∷ 0x04 ∷ 0x04 ∷ 0x02 ∷ 0x18 ∷ 0x08 ∷ []
    ++ 0x00 ∷ 0xFF ∷ 0x59 ∷ 0x02 ∷ 0xFD ∷ 0x00 ∷ []
    ++ 0x83 ∷ 0x60 ∷ 0xFF ∷ 0x2F ∷ 0x00 ∷ []
    ++ codes "XFIH" ++ 0x00 ∷ 0x00 ∷ 0x00 ∷ 0x02 ∷ 0xAA ∷ 0xBB ∷ []
    ++ codes "MTrk" ++ 0x00 ∷ 0x00 ∷ 0x00 ∷ 0x20 ∷ []
    ++ 0x00 ∷ 0x90 ∷ 0x3C ∷ 0x40 ∷ 0x00 ∷ 0x3E ∷ 0x40 ∷ []
    ++ 0x83 ∷ 0x60 ∷ 0xF0 ∷ 0x05 ∷ 0x7E ∷ 0x7F ∷ 0x09 ∷ 0x01 ∷ 0xF7 ∷ []
    ++ 0x00 ∷ 0xF7 ∷ 0x02 ∷ 0xF3 ∷ 0x01 ∷ []
    ++ 0x00 ∷ 0xFF ∷ 0x60 ∷ 0x02 ∷ 0x01 ∷ 0x02 ∷ []
    ++ 0x83 ∷ 0x60 ∷ 0xFF ∷ 0x2F ∷ 0x00 ∷ []
    ++ 0x0A ∷ []

abbrev pub at : ℕ → TrackEvent → Pair
at delta event = record { delta = delta; event = event }

abbrev pub example_file : MidiFile
example_file = record {
  format = 1;
  division = 480;
  tracks =
      (at 0 (Meta 0x03 (codes "Piano & Bass"))
      ∷ at 0 (Meta 0x51 (0x07 ∷ 0xA1 ∷ 0x20 ∷ []))
      ∷ at 0 (Meta 0x58 (0x04 ∷ 0x02 ∷ 0x18 ∷ 0x08 ∷ []))
      ∷ at 0 (Meta 0x59 (0xFD ∷ 0x00 ∷ []))
      ∷ at 480 (Meta 0x2F [])
      ∷ [])
      ∷ (at 0 (Voice 0x90 (0x3C ∷ 0x40 ∷ []))
      ∷ at 0 (Voice 0x90 (0x3E ∷ 0x40 ∷ []))
      ∷ at 480 (Exclusive (0x7E ∷ 0x7F ∷ 0x09 ∷ 0x01 ∷ 0xF7 ∷ []))
      ∷ at 0 (Escape (0xF3 ∷ 0x01 ∷ []))
      ∷ at 0 (Meta 0x60 (0x01 ∷ 0x02 ∷ []))
      ∷ at 480 (Meta 0x2F [])
      ∷ [])
      ∷ [];
}

pub record WholeFile : Type 0 where
  pub read : IsFile example example_file
  pub text : all_text example_file ≡
      codes "format 1 tracks 2 division 480\n"
      ++ codes "track 0\n"
      ++ codes "0 name \"Piano & Bass\"\n"
      ++ codes "0 tempo 500000\n"
      ++ codes "0 time 4 2 24 8\n"
      ++ codes "0 key -3 0\n"
      ++ codes "480 end\n"
      ++ codes "track 1\n"
      ++ codes "0 90 3C 40\n"
      ++ codes "0 90 3E 40\n"
      ++ codes "480 F0 7E 7F 09 01 F7\n"
      ++ codes "480 F7 F3 01\n"
      ++ codes "480 meta 60 01 02\n"
      ++ codes "960 end\n"

-- the same with places
pub record PlacedFile : Type 0 where
  pub text : (file : IsFile example example_file) → placed_text true example file ≡
      codes "0 format 1 tracks 2 division 480\n"
      ++ codes "14 track 0\n"
      ++ codes "22 0 name \"Piano & Bass\"\n"
      ++ codes "38 0 tempo 500000\n"
      ++ codes "45 0 time 4 2 24 8\n"
      ++ codes "53 0 key -3 0\n"
      ++ codes "59 480 end\n"
      ++ codes "74 track 1\n"
      ++ codes "82 0 90 3C 40\n"
      ++ codes "86 0 90 3E 40\n"
      ++ codes "89 480 F0 7E 7F 09 01 F7\n"
      ++ codes "98 480 F7 F3 01\n"
      ++ codes "103 480 meta 60 01 02\n"
      ++ codes "109 960 end\n"
