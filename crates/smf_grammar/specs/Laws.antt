-- Law: What holds of files, for all bytes.
use Rattle.std.specs.Prelude.{◌≡◌, ◌≤◌, ◌<◌, ℕ, suc, ◌+◌, List, [], ◌∷◌, ◌++◌, map, length, IsTrue, Option, Some, None, ◌⊎◌, ◌↔◌, Ok, Err}
use Rattle.std.specs.List.Sorted.{IsPermutation}
use Rattle.smf_grammar.specs.declared.event.Event.{Event}
use Rattle.smf_grammar.specs.Pairs.{Pair}
use Rattle.smf_grammar.specs.Contents.{message_of, events_of, entries_of, skipped_of}
use Rattle.smf_grammar.specs.Texts.{file_text, bad_event}
use Rattle.smf_grammar.specs.Written.{written_file, file_refusal}
use Rattle.smf_grammar.specs.Chunks.{most_bytes}
use Rattle.midi_wire.specs.Messages.{AllMessages}
use Rattle.tempo_clock.specs.Entries.{is_ppq, is_tempo}
use Rattle.smf_grammar.specs.declared.fault.SmfFault.{SmfFault}
use Rattle.smf_grammar.specs.declared.fault.SmfFault.TheVariants.{OutOfMemory}
use Rattle.smf_grammar.specs.Files.{MidiFile, IsFile, Fault}
use Rattle.smf_grammar.specs.Reading.{file_reading}

-- the bytes are a file, or they have a fault
abbrev pub FileOrFault : Type 0
FileOrFault =
    (bytes : List ℕ) → ((f : MidiFile) × IsFile bytes f) ⊎ ((x : SmfFault) × Fault bytes x)

-- they are one file at most
abbrev pub OneFile : Type 0
OneFile = (bytes : List ℕ) (f g : MidiFile) → IsFile bytes f → IsFile bytes g → f ≡ g

-- they have one fault at most
abbrev pub OneFault : Type 0
OneFault = (bytes : List ℕ) (x y : SmfFault) → Fault bytes x → Fault bytes y → x ≡ y

-- and never both
abbrev pub NotBoth : Type 0
NotBoth = (bytes : List ℕ) (f : MidiFile) (x : SmfFault) → IsFile bytes f → Fault bytes x → ⊥

-- reading computes which
abbrev pub ReadsFiles : Type 0
ReadsFiles = (bytes : List ℕ) (f : MidiFile) → (file_reading bytes ≡ Ok f) ↔ IsFile bytes f

abbrev pub ReadsFaults : Type 0
ReadsFaults = (bytes : List ℕ) (x : SmfFault) → (file_reading bytes ≡ Err x) ↔ Fault bytes x

-- ---- the order of events

-- an event with the number of its track and its place there
pub record PlacedEvent : Type 0 where
  pub tick : ℕ
  pub track : ℕ
  pub place : ℕ
  pub message : List ℕ

abbrev pub placed_if : ℕ → ℕ → ℕ → Option (List ℕ) → List PlacedEvent
placed_if tick track place None = []
placed_if tick track place (Some message) =
    record { tick = tick; track = track; place = place; message = message } ∷ []

-- the messages of the pairs of a track, from this tick and this place on
abbrev pub placed_in : ℕ → ℕ → ℕ → List Pair → List PlacedEvent
placed_in track place tick [] = []
placed_in track place tick (p ∷ ps) =
    placed_if (tick + p.delta) track place (message_of p.event)
    ++ placed_in track (suc place) (tick + p.delta) ps

-- those of all tracks, one after another
abbrev pub all_placed : ℕ → List (List Pair) → List PlacedEvent
all_placed track [] = []
all_placed track (ps ∷ tracks) = placed_in track 0 0 ps ++ all_placed (suc track) tracks

-- an earlier tick; or the same, and an earlier track; or the same too, and an earlier place
abbrev pub Before : PlacedEvent → PlacedEvent → Type 0
Before a b =
    (a.tick < b.tick) ⊎ ((a.tick ≡ b.tick)
    × ((a.track < b.track) ⊎ ((a.track ≡ b.track) × (a.place < b.place))))

abbrev pub AllBefore : PlacedEvent → List PlacedEvent → Type 0
AllBefore a [] = Unit {0}
AllBefore a (b ∷ bs) = Before a b × AllBefore a bs

-- each comes before all after it
abbrev pub AreInOrder : List PlacedEvent → Type 0
AreInOrder [] = Unit {0}
AreInOrder (a ∷ bs) = AllBefore a bs × AreInOrder bs

abbrev pub event_of : PlacedEvent → Event
event_of a = record { tick = a.tick; message = a.message }

-- the events of a file are all of its tracks' events, by tick, then by track, then by place
pub record IsOrdered (f : MidiFile) : Type 0 where
  pub sorted : List PlacedEvent
  pub all : IsPermutation (all_placed 0 f.tracks) sorted
  pub rising : AreInOrder sorted
  pub events : events_of f ≡ map event_of sorted

abbrev pub EventsInOrder : Type 0
EventsInOrder = (f : MidiFile) → IsOrdered f

-- ---- written files

-- a file with this many ticks per quarter note, this tempo and these events can be written
pub record CanBeWritten (ppq tempo : ℕ) (events : List Event) : Type 0 where
  pub ppq_is : IsTrue (is_ppq ppq)
  pub tempo_is : IsTrue (is_tempo tempo)
  pub events_are : bad_event 0 events ≡ None
  pub messages : AllMessages (map (λ e. e.message) events)
  pub small : length (file_text ppq tempo events) ≤ most_bytes

-- its text is a file of format 0 that says just this
pub record ReadsBack (ppq tempo : ℕ) (events : List Event) : Type 0 where
  pub f : MidiFile
  pub file : IsFile (file_text ppq tempo events) f
  pub format : f.format ≡ 0
  pub one : length f.tracks ≡ 1
  pub division : f.division ≡ ppq
  pub entries : entries_of f ≡ record { tick = 0; tempo = tempo } ∷ []
  pub says : events_of f ≡ events
  pub skipped : skipped_of f ≡ 0

abbrev pub ReadsText : Type 0
ReadsText =
    (ppq tempo : ℕ) (events : List Event) → CanBeWritten ppq tempo events
    → ReadsBack ppq tempo events

-- the text of a file that can be written is just this file: its format, its division, and the pairs
-- of each of its tracks
abbrev pub ReadsWritten : Type 0
ReadsWritten = (f : MidiFile) → file_refusal f ≡ None → IsFile (written_file f) f

-- the fault of bytes is never out of memory
abbrev pub FaultsOfBytes : Type 0
FaultsOfBytes = (bytes : List ℕ) → Fault bytes OutOfMemory → ⊥
