-- Worked rows: What the definitions say of a few files.
use Rattle.std.specs.Prelude.{◌≡◌, ℕ, List, [], ◌∷◌, ◌++◌, length, take, Some, None, Result, Ok, Err, slice_set}
use Rattle.tempo_clock.specs.declared.entry.TempoEntry.{TempoEntry}
use Rattle.smf_grammar.specs.Quantities.{quantity}
use Rattle.smf_grammar.specs.declared.event.Event.{Event}
use Rattle.smf_grammar.specs.declared.fault.QuantityFault.TheVariants.{Short, Long}
use Rattle.smf_grammar.specs.declared.fault.SmfFault.{SmfFault}
use Rattle.smf_grammar.specs.declared.fault.SmfFault.TheVariants.{NotMidi, ShortHeader, Format2, TrackMissing, Truncated, NoStatus, NoEndOfTrack, ZeroDivision, DropFrame, SmpteDivision}
use Rattle.smf_grammar.specs.Pairs.{TrackEvent, Voice, Exclusive, Escape, Meta, Pair}
use Rattle.smf_grammar.specs.Files.{MidiFile}
use Rattle.smf_grammar.specs.Contents.{events_of, entries_of, skipped_of}
use Rattle.smf_grammar.specs.Texts.{file_text}
use Rattle.smf_grammar.specs.Written.{written_file, file_refusal, BadFormat, BadTrackCount, BadDivision, BadPair, EarlyEnd, NoEnd}
use Rattle.smf_grammar.specs.Reading.{file_reading}

-- ---- quantities

pub record Quantities : Type 0 where
  pub two : quantity (129 ∷ 0 ∷ []) ≡ Ok (128, 2)
  pub greatest : quantity (255 ∷ 255 ∷ 255 ∷ 127 ∷ []) ≡ Ok (268435455, 4)
  pub padded : quantity (128 ∷ 0 ∷ []) ≡ Ok (0, 2)
  pub long : quantity (128 ∷ 128 ∷ 128 ∷ 128 ∷ 0 ∷ []) ≡ Err Long
  pub cut : quantity (129 ∷ []) ≡ Err Short
  pub empty : quantity [] ≡ Err Short

-- ---- files

-- format 0, one track, this division
abbrev pub header : ℕ → ℕ → List ℕ
header high low = 77 ∷ 84 ∷ 104 ∷ 100 ∷ 0 ∷ 0 ∷ 0 ∷ 6 ∷ 0 ∷ 0 ∷ 0 ∷ 1 ∷ high ∷ low ∷ []

abbrev pub track_of_length : ℕ → List ℕ → List ℕ
track_of_length size content = 77 ∷ 84 ∷ 114 ∷ 107 ∷ 0 ∷ 0 ∷ 0 ∷ size ∷ content

abbrev pub alien_chunk : List ℕ
alien_chunk = 88 ∷ 89 ∷ 90 ∷ 49 ∷ 0 ∷ 0 ∷ 0 ∷ 2 ∷ 170 ∷ 187 ∷ []

-- a tempo, a note that sounds for 480 ticks, and the end
abbrev pub note_track : List ℕ
note_track =
    0 ∷ 255 ∷ 81 ∷ 3 ∷ 7 ∷ 161 ∷ 32 ∷ 0 ∷ 144 ∷ 60 ∷ 64 ∷ 131 ∷ 96 ∷ 60 ∷ 0 ∷ 0 ∷ 255 ∷ 47 ∷ 0 ∷ []

abbrev pub small : List ℕ
small = header 1 224 ++ alien_chunk ++ track_of_length 19 note_track

-- a file that says this
pub record IsSaid (f : MidiFile) (format tracks division : ℕ) (entries : List TempoEntry)
    (events : List Event) (skipped : ℕ) : Type 0 where
  pub format_is : f.format ≡ format
  pub tracks_are : length f.tracks ≡ tracks
  pub division_is : f.division ≡ division
  pub entries_are : entries_of f ≡ entries
  pub events_are : events_of f ≡ events
  pub skipped_are : skipped_of f ≡ skipped

abbrev pub IsSaidBy : Result MidiFile SmfFault → ℕ → ℕ → ℕ → List TempoEntry → List Event → ℕ
    → Type 0
IsSaidBy (Ok f) format tracks division entries events skipped =
    IsSaid f format tracks division entries events skipped
IsSaidBy (Err x) format tracks division entries events skipped = ⊥

-- the bytes are a file that says this
abbrev pub Says : List ℕ → ℕ → ℕ → ℕ → List TempoEntry → List Event → ℕ → Type 0
Says bytes format tracks division entries events skipped =
    IsSaidBy (file_reading bytes) format tracks division entries events skipped

abbrev pub at : ℕ → List ℕ → Event
at tick message = record { tick = tick; message = message }

abbrev pub tempo_entry : ℕ → ℕ → TempoEntry
tempo_entry tick tempo = record { tick = tick; tempo = tempo }

abbrev pub Refuses : List ℕ → SmfFault → Type 0
Refuses bytes x = file_reading bytes ≡ Err x

pub record SmallFile : Type 0 where
  pub whole : Says small 0 1 480 (tempo_entry 0 500000 ∷ []) (at 0 (144 ∷ 60 ∷ 64 ∷ [])
      ∷ at 480 (144 ∷ 60 ∷ 0 ∷ []) ∷ []) 0
  pub cut : Refuses (take 47 small) (Truncated 24)
  pub no_end : Refuses (slice_set (take 47 small) 31 15) (NoEndOfTrack 0)
  pub patterns : Refuses (slice_set small 9 2) Format2

-- two tracks, of the same division
abbrev pub two_tracks : ℕ → List ℕ
two_tracks count = 77 ∷ 84 ∷ 104 ∷ 100 ∷ 0 ∷ 0 ∷ 0 ∷ 6 ∷ 0 ∷ 1 ∷ 0 ∷ count ∷ 0 ∷ 96 ∷
    track_of_length 15 (0 ∷ 255 ∷ 81 ∷ 3 ∷ 3 ∷ 208 ∷ 144 ∷ 96 ∷ 144 ∷ 1 ∷ 64 ∷ 0 ∷ 255 ∷ 47 ∷ 0
    ∷ [])
    ++ track_of_length 19 (96 ∷ 144 ∷ 2 ∷ 64 ∷ 0 ∷ 255 ∷ 81 ∷ 3 ∷ 7 ∷ 161 ∷ 32 ∷ 0 ∷ 144 ∷ 3 ∷ 64
    ∷ 0 ∷ 255 ∷ 47 ∷ 0 ∷ [])

pub record TwoTracks : Type 0 where
  pub whole : Says (two_tracks 2) 1 2 96 (tempo_entry 0 250000 ∷ tempo_entry 96 500000
      ∷ []) (at 96 (144 ∷ 1 ∷ 64 ∷ []) ∷ at 96 (144 ∷ 2 ∷ 64 ∷ []) ∷ at 96 (144 ∷ 3 ∷ 64 ∷ [])
      ∷ []) 0
  pub three : Refuses (two_tracks 3) TrackMissing
  pub one : Says (two_tracks 1) 1 1 96 (tempo_entry 0 250000 ∷ [])
      (at 96 (144 ∷ 1 ∷ 64 ∷ []) ∷ []) 0

-- the first bytes of the small file
pub record CutFiles : Type 0 where
  pub none : Refuses [] NotMidi
  pub three : Refuses (take 3 small) NotMidi
  pub four : Refuses (take 4 small) ShortHeader
  pub thirteen : Refuses (take 13 small) ShortHeader
  pub fourteen : Refuses (take 14 small) TrackMissing
  pub twenty_one : Refuses (take 21 small) TrackMissing
  pub twenty_two : Refuses (take 22 small) (Truncated 14)
  pub twenty_three : Refuses (take 23 small) (Truncated 14)
  pub twenty_four : Refuses (take 24 small) TrackMissing
  pub thirty_one : Refuses (take 31 small) TrackMissing
  pub thirty_two : Refuses (take 32 small) (Truncated 24)
  pub fifty : Refuses (take 50 small) (Truncated 24)

-- 25 frames per second, 40 ticks in each
abbrev pub frame_file : ℕ → ℕ → List ℕ
frame_file high low = header high low ++ alien_chunk ++ track_of_length 19 note_track

pub record FramedFile : Type 0 where
  pub whole : Says (frame_file 231 40) 0 1 59176 [] (at 0 (144 ∷ 60 ∷ 64 ∷ [])
      ∷ at 480 (144 ∷ 60 ∷ 0 ∷ []) ∷ []) 0
  pub no_ticks : Refuses (frame_file 231 0) ZeroDivision
  pub dropped : Refuses (frame_file 227 40) DropFrame
  pub other : Refuses (frame_file 224 40) SmpteDivision

-- a header of seven bytes, of which the last says nothing
abbrev pub long_header : List ℕ
long_header =
    77 ∷ 84 ∷ 104 ∷ 100 ∷ 0 ∷ 0 ∷ 0 ∷ 7 ∷ 0 ∷ 0 ∷ 0 ∷ 1 ∷ 1 ∷ 224 ∷ 170 ∷ []
    ++ track_of_length 19 note_track

pub record LongHeader : Type 0 where
  pub whole : Says long_header 0 1 480 (tempo_entry 0 500000 ∷ []) (at 0 (144 ∷ 60 ∷ 64 ∷ [])
      ∷ at 480 (144 ∷ 60 ∷ 0 ∷ []) ∷ []) 0
  pub cut : Refuses (take 14 long_header) ShortHeader

-- exclusive data: a whole message, one with a status inside, and an escape
abbrev pub exclusives : List ℕ
exclusives =
    header 1 224 ++ track_of_length 19 (0 ∷ 240 ∷ 3 ∷ 125 ∷ 1 ∷ 247 ∷ 0 ∷ 240 ∷ 2 ∷ 125 ∷ 1 ∷ 0
    ∷ 247 ∷ 1 ∷ 248 ∷ 0 ∷ 255 ∷ 47 ∷ 0 ∷ [])

-- an exclusive event ends the running status
abbrev pub status_gone : List ℕ
status_gone =
    header 1 224 ++ track_of_length 15 (0 ∷ 144 ∷ 60 ∷ 64 ∷ 0 ∷ 240 ∷ 1 ∷ 247 ∷ 0 ∷ 60 ∷ 64 ∷ 0
    ∷ 255 ∷ 47 ∷ 0 ∷ [])

pub record ExclusiveFiles : Type 0 where
  pub whole : Says exclusives 0 1 480 (tempo_entry 0 500000 ∷ [])
      (at 0 (240 ∷ 125 ∷ 1 ∷ 247 ∷ []) ∷ []) 2
  pub gone : Refuses status_gone (NoStatus 30)

-- meta events: a name, a tempo of four bytes and another name, each some ticks after the one
-- before; the end has a byte, and behind it there is a note
abbrev pub metas : ℕ → ℕ → List ℕ
metas high low =
    header high low ++ track_of_length 36
    (0 ∷ 255 ∷ 3 ∷ 1 ∷ 65 ∷ 10 ∷ 255 ∷ 81 ∷ 4 ∷ 3 ∷ 208 ∷ 144 ∷ 0
    ∷ 20 ∷ 255 ∷ 3 ∷ 2 ∷ 66 ∷ 67 ∷ 30 ∷ 144 ∷ 60 ∷ 64 ∷ 40 ∷ 255 ∷ 47 ∷ 1 ∷ 0 ∷ 0 ∷ 144 ∷ 62 ∷ 64
    ∷ 0 ∷ 255
    ∷ 47 ∷ 0 ∷ [])

-- names are passed over and not counted; the tempo sets none, and is counted where tempo counts;
-- the first end is the end
pub record MetaFiles : Type 0 where
  pub by_quarters : Says (metas 1 224) 0 1 480 (tempo_entry 0 500000 ∷ [])
      (at 60 (144 ∷ 60 ∷ 64 ∷ []) ∷ []) 1
  pub by_frames : Says (metas 231 40) 0 1 59176 [] (at 60 (144 ∷ 60 ∷ 64 ∷ []) ∷ []) 0

-- one note on, as it is written
pub record WrittenFile : Type 0 where
  pub text : file_text 480 500000 (at 0 (144 ∷ 60 ∷ 64 ∷ []) ∷ []) ≡ header 1 224
      ++ track_of_length 15 (0 ∷ 255 ∷ 81 ∷ 3 ∷ 7 ∷ 161 ∷ 32 ∷ 0 ∷ 144 ∷ 60 ∷ 64 ∷ 0 ∷ 255 ∷ 47 ∷ 0
      ∷ [])
  pub back : Says (file_text 480 500000 (at 0 (144 ∷ 60 ∷ 64 ∷ []) ∷ [])) 0 1 480
      (tempo_entry 0 500000
      ∷ []) (at 0 (144 ∷ 60 ∷ 64 ∷ []) ∷ []) 0

-- ---- files of any tracks, written

abbrev pub after : ℕ → TrackEvent → Pair
after delta event = record { delta = delta; event = event }

-- a tempo, and the end a quarter note later
abbrev pub tempo_pairs : List Pair
tempo_pairs = after 0 (Meta 81 (7 ∷ 161 ∷ 32 ∷ [])) ∷ after 96 (Meta 47 []) ∷ []

-- events of each kind, and the end some ticks later
abbrev pub all_pairs : List Pair
all_pairs =
    after 0 (Voice 144 (60 ∷ 64 ∷ [])) ∷ after 96 (Voice 144 (60 ∷ 0 ∷ []))
    ∷ after 0 (Meta 1 (65 ∷ [])) ∷ after 0 (Voice 144 (62 ∷ 64 ∷ []))
    ∷ after 128 (Exclusive (125 ∷ 1 ∷ 247 ∷ [])) ∷ after 0 (Escape (248 ∷ []))
    ∷ after 5 (Voice 194 (7 ∷ [])) ∷ after 0 (Voice 194 (8 ∷ [])) ∷ after 7 (Meta 47 []) ∷ []

abbrev pub tracks_file : ℕ → ℕ → List (List Pair) → MidiFile
tracks_file format division tracks =
    record { format = format; division = division; tracks = tracks }

-- the status runs on to the second note and to the second program, and not over the meta event
abbrev pub two_tracks_text : List ℕ
two_tracks_text =
    77 ∷ 84 ∷ 104 ∷ 100 ∷ 0 ∷ 0 ∷ 0 ∷ 6 ∷ 0 ∷ 1 ∷ 0 ∷ 2 ∷ 0 ∷ 96 ∷ []
    ++ track_of_length 11 (0 ∷ 255 ∷ 81 ∷ 3 ∷ 7 ∷ 161 ∷ 32 ∷ 96 ∷ 255 ∷ 47 ∷ 0 ∷ [])
    ++ track_of_length 36 (0 ∷ 144 ∷ 60 ∷ 64 ∷ 96 ∷ 60 ∷ 0 ∷ 0 ∷ 255 ∷ 1 ∷ 1 ∷ 65 ∷ 0 ∷ 144 ∷ 62
    ∷ 64 ∷ 129 ∷ 0 ∷ 240 ∷ 3 ∷ 125 ∷ 1 ∷ 247 ∷ 0 ∷ 247 ∷ 1 ∷ 248 ∷ 5 ∷ 194 ∷ 7 ∷ 0 ∷ 8 ∷ 7 ∷ 255 ∷ 47 ∷ 0
    ∷ [])

pub record WrittenTracks : Type 0 where
  pub text : written_file (tracks_file 1 96 (tempo_pairs ∷ all_pairs ∷ [])) ≡ two_tracks_text
  pub back : file_reading two_tracks_text ≡ Ok (tracks_file 1 96 (tempo_pairs ∷ all_pairs ∷ []))

-- files that can't be written, each for another reason
pub record RefusedTracks : Type 0 where
  pub none : file_refusal (tracks_file 1 96 (tempo_pairs ∷ all_pairs ∷ [])) ≡ None
  pub format : file_refusal (tracks_file 2 96 (tempo_pairs ∷ [])) ≡ Some BadFormat
  pub tracks : file_refusal (tracks_file 0 96 (tempo_pairs ∷ tempo_pairs ∷ [])) ≡ Some BadTrackCount
  pub no_tracks : file_refusal (tracks_file 1 96 []) ≡ Some BadTrackCount
  pub division : file_refusal (tracks_file 0 58152 (tempo_pairs ∷ [])) ≡ Some BadDivision
  pub delta : file_refusal (tracks_file 1 96 (tempo_pairs ∷ (after 5 (Meta 1 [])
      ∷ after 268435456 (Meta 47 []) ∷ []) ∷ [])) ≡ Some (BadPair 1 1)
  pub data_byte : file_refusal (tracks_file 0 96 ((after 0 (Voice 144 (60 ∷ 128 ∷ []))
      ∷ after 0 (Meta 47 []) ∷ []) ∷ [])) ≡ Some (BadPair 0 0)
  pub no_byte : file_refusal (tracks_file 0 96 ((after 0 (Meta 1 (256 ∷ []))
      ∷ after 0 (Meta 47 []) ∷ []) ∷ [])) ≡ Some (BadPair 0 0)
  pub early : file_refusal (tracks_file 0 96 ((after 3 (Meta 47 []) ∷ after 0 (Meta 47 []) ∷ [])
      ∷ [])) ≡ Some (EarlyEnd 0 0)
  pub no_end : file_refusal (tracks_file 1 96 (tempo_pairs ∷ (after 0 (Meta 1 []) ∷ []) ∷ []))
      ≡ Some (NoEnd 1)
  pub no_pairs : file_refusal (tracks_file 0 96 ([] ∷ [])) ≡ Some (NoEnd 0)
