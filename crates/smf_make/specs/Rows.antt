-- Worked rows: What is read of meta events, of events of each kind, of lines that are passed over,
-- of faults, and of a whole file.
use Rattle.std.specs.Prelude.{◌≡◌, ℕ, List, [], ◌∷◌, ◌++◌, true, false, Some, None, Ok, Err, codes}
use Rattle.smf_grammar.specs.Pairs.{TrackEvent, Voice, Exclusive, Escape, Meta}
use Rattle.smf_grammar.specs.Files.{MidiFile}
use Rattle.smf_make.specs.declared.fault.Expected.TheVariants.{Header, Track, Event, End}
use Rattle.smf_make.specs.declared.fault.MakeFault.TheVariants.{Line}
use Rattle.smf_make.specs.SaidEvents.{is_passed_over, event_said, timed_event}
use Rattle.smf_make.specs.SaidFiles.{said_file}
use Rattle.smf_text.specs.AllTexts.{all_text}
use Rattle.smf_text.specs.Rows.{at, example_file}

abbrev pub Says : List ℕ → TrackEvent → Type 0
Says text event = event_said text ≡ Some event

abbrev pub SaysNone : List ℕ → Type 0
SaysNone text = event_said text ≡ None

-- ---- meta events

-- each type that has a name
pub record NamedMetasRead : Type 0 where
  pub sequence : Says (codes "sequence 258") (Meta 0x00 (0x01 ∷ 0x02 ∷ []))
  pub text : Says (codes "text \"Trio\"") (Meta 0x01 (codes "Trio"))
  pub copyright : Says (codes "copyright \"(C) 1996\"") (Meta 0x02 (codes "(C) 1996"))
  pub name : Says (codes "name \"Piano & Bass\"") (Meta 0x03 (codes "Piano & Bass"))
  pub instrument : Says (codes "instrument \"Oboe\"") (Meta 0x04 (codes "Oboe"))
  pub lyric : Says (codes "lyric \"la-\"") (Meta 0x05 (codes "la-"))
  pub marker : Says (codes "marker \"Verse 1\"") (Meta 0x06 (codes "Verse 1"))
  pub cue : Says (codes "cue \"Car crashes\"") (Meta 0x07 (codes "Car crashes"))
  pub program : Says (codes "program \"Strings\"") (Meta 0x08 (codes "Strings"))
  pub device : Says (codes "device \"Out 2\"") (Meta 0x09 (codes "Out 2"))
  pub channel : Says (codes "channel 15") (Meta 0x20 (0x0F ∷ []))
  pub port : Says (codes "port 3") (Meta 0x21 (0x03 ∷ []))
  pub end : Says (codes "end") (Meta 0x2F [])
  pub tempo : Says (codes "tempo 500000") (Meta 0x51 (0x07 ∷ 0xA1 ∷ 0x20 ∷ []))
  pub smpte : Says (codes "smpte 97 2 59 29 99")
      (Meta 0x54 (0x61 ∷ 0x02 ∷ 0x3B ∷ 0x1D ∷ 0x63 ∷ []))
  pub time : Says (codes "time 6 3 36 8") (Meta 0x58 (0x06 ∷ 0x03 ∷ 0x24 ∷ 0x08 ∷ []))
  pub key : Says (codes "key -3 0") (Meta 0x59 (0xFD ∷ 0x00 ∷ []))
  pub sharps : Says (codes "key 7 1") (Meta 0x59 (0x07 ∷ 0x01 ∷ []))
  pub most_sharps : Says (codes "key 127 0") (Meta 0x59 (0x7F ∷ 0x00 ∷ []))
  pub most_flats : Says (codes "key -128 255") (Meta 0x59 (0x80 ∷ 0xFF ∷ []))
  pub sequencer : Says (codes "sequencer 00 00 41 F7") (Meta 0x7F (0x00 ∷ 0x00 ∷ 0x41 ∷ 0xF7 ∷ []))
  pub too_great : SaysNone (codes "sequence 65536")
  pub too_few : SaysNone (codes "time 6 3 36")
  pub too_many : SaysNone (codes "port 3 4")
  pub too_sharp : SaysNone (codes "key 128 0")
  pub too_flat : SaysNone (codes "key -129 0")
  pub unknown : SaysNone (codes "Tempo 500000")

-- by their type and their bytes, also those that have a name
pub record PlainMetasRead : Type 0 where
  pub none : Says (codes "meta 7E") (Meta 0x7E [])
  pub other : Says (codes "meta 60 01 02") (Meta 0x60 (0x01 ∷ 0x02 ∷ []))
  pub tempo : Says (codes "meta 51 07 a1 20") (Meta 0x51 (0x07 ∷ 0xA1 ∷ 0x20 ∷ []))
  pub short_tempo : Says (codes "meta 51 07 A1") (Meta 0x51 (0x07 ∷ 0xA1 ∷ []))
  pub no_type : SaysNone (codes "meta")
  pub one_digit : SaysNone (codes "meta 7E 1")

-- the bytes that are escaped, in either case of letters, and all others; what may not stand there
pub record QuotedMetasRead : Type 0 where
  pub empty : Says (codes "text \"\"") (Meta 0x01 [])
  pub escaped_byte : Says (codes "text \"\\x00\\x0a\\xE9\\xfF\"")
      (Meta 0x01 (0x00 ∷ 0x0A ∷ 0xE9 ∷ 0xFF ∷ []))
  pub marks : Says (codes "text \"\\x22\\x5C\"") (Meta 0x01 (0x22 ∷ 0x5C ∷ []))
  pub blanks : Says (codes "text \t\"  a \tb \" \t ") (Meta 0x01 (codes "  a \tb "))
  pub high : Says (codes "text \"" ++ 0xC3 ∷ 0xA9 ∷ 0x22 ∷ []) (Meta 0x01 (0xC3 ∷ 0xA9 ∷ []))
  pub unclosed : SaysNone (codes "text \"a")
  pub unopened : SaysNone (codes "text a\"")
  pub behind : SaysNone (codes "text \"a\" b")
  pub no_blank : SaysNone (codes "text\"a\"")
  pub other_escape : SaysNone (codes "text \"a\\n\"")
  pub one_digit : SaysNone (codes "text \"\\x4\"")

-- ---- events

pub record EventsRead : Type 0 where
  pub note : Says (codes "90 3C 40") (Voice 0x90 (0x3C ∷ 0x40 ∷ []))
  pub lower : Says (codes "\t90  3c\t40 ") (Voice 0x90 (0x3C ∷ 0x40 ∷ []))
  pub program : Says (codes "C5 07") (Voice 0xC5 (0x07 ∷ []))
  pub exclusive : Says (codes "F0 7E 7F 09 01 F7")
      (Exclusive (0x7E ∷ 0x7F ∷ 0x09 ∷ 0x01 ∷ 0xF7 ∷ []))
  pub empty : Says (codes "f0") (Exclusive [])
  pub last_part : Says (codes "F7 00 F7") (Escape (0x00 ∷ 0xF7 ∷ []))
  pub timed : timed_event (codes "480 \t90 3C 40") ≡ Some (480, Voice 0x90 (0x3C ∷ 0x40 ∷ []))
  pub last_tick : timed_event (codes "18446744073709551615 end")
      ≡ Some (18446744073709551615, Meta 0x2F [])
  pub no_tick : timed_event (codes "18446744073709551616 end") ≡ None
  pub data_missing : SaysNone (codes "90 3C")
  pub no_data : SaysNone (codes "90 3C 80")
  pub no_status : SaysNone (codes "3C 40")
  pub real_time : SaysNone (codes "F8")
  pub no_word : SaysNone []

pub record PassedOverLines : Type 0 where
  pub empty : is_passed_over [] ≡ true
  pub blanks : is_passed_over (codes " \t ") ≡ true
  pub remark : is_passed_over (codes "  # 0 end") ≡ true
  pub track : is_passed_over (codes "track 0") ≡ false

-- ---- faults

-- the text has this fault at the line with this number
pub record MakeFaults : Type 0 where
  pub nothing : said_file [] ≡ Err (Line 1 Header)
  pub one_line_end : said_file (codes "\n") ≡ Err (Line 2 Header)
  pub bad_header : said_file (codes "# so\n\nformat 1 track 1 division 96\n") ≡ Err (Line 3 Header)
  pub bad_format : said_file (codes "format 2 tracks 1 division 96\n") ≡ Err (Line 1 Header)
  pub bad_count : said_file (codes "format 0 tracks 2 division 96\n") ≡ Err (Line 1 Header)
  pub bad_division : said_file (codes "format 0 tracks 1 division 0\n") ≡ Err (Line 1 Header)
  pub no_track : said_file (codes "format 0 tracks 1 division 96\n") ≡ Err (Line 2 (Track 0))
  pub other_track : said_file (codes "format 0 tracks 1 division 96\ntrack 1\n")
      ≡ Err (Line 2 (Track 0))
  pub no_event : said_file (codes "format 0 tracks 1 division 96\ntrack 0") ≡ Err (Line 3 (Event 0))
  pub no_end : said_file (codes "format 0 tracks 1 division 96\ntrack 0\n5 C0 01\n")
      ≡ Err (Line 4 (Event 5))
  pub fallen : said_file (codes "format 0 tracks 1 division 96\ntrack 0\n5 C0 01\n4 end\n")
      ≡ Err (Line 4 (Event 5))
  pub far : said_file (codes "format 0 tracks 1 division 96\ntrack 0\n268435456 end\n")
      ≡ Err (Line 3 (Event 0))
  pub no_second : said_file (codes "format 1 tracks 2 division 96\ntrack 0\n0 end\n")
      ≡ Err (Line 4 (Track 1))
  pub more : said_file (codes "format 0 tracks 1 division 96\ntrack 0\n0 end\n0 end\n")
      ≡ Err (Line 4 End)

-- ---- a file

-- as it may be typed: remarks and blank lines, blanks, digits in either case, and line ends of two
-- bytes
abbrev pub typed : List ℕ
typed =
    codes "# a trio\r\n\r\nformat 1  tracks 2\tdivision 480\r\n"
    ++ codes "track 0\n 0 name \"Piano \\x26 Bass\"  \n0 tempo 500000\n\t480 end\n"
    ++ codes "\ntrack 1\n0 90 3c 40\n0 90 3E 40\n#\n480 F0 7e 7F f7\n960 meta 2f 00\n \n"

abbrev pub typed_file : MidiFile
typed_file = record {
  format = 1;
  division = 480;
  tracks =
      (at 0 (Meta 0x03 (codes "Piano & Bass"))
      ∷ at 0 (Meta 0x51 (0x07 ∷ 0xA1 ∷ 0x20 ∷ []))
      ∷ at 480 (Meta 0x2F [])
      ∷ [])
      ∷ (at 0 (Voice 0x90 (0x3C ∷ 0x40 ∷ []))
      ∷ at 0 (Voice 0x90 (0x3E ∷ 0x40 ∷ []))
      ∷ at 480 (Exclusive (0x7E ∷ 0x7F ∷ 0xF7 ∷ []))
      ∷ at 480 (Meta 0x2F (0x00 ∷ []))
      ∷ [])
      ∷ [];
}

pub record WholeFilesRead : Type 0 where
  pub printed : said_file (all_text example_file) ≡ Ok example_file
  pub typed : said_file typed ≡ Ok typed_file
