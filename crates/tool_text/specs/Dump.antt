-- Definition: What a Standard MIDI File says, as text.
use Rattle.std.specs.Prelude.{◌+◌, ◌≤◌, ℕ, List, [], ◌∷◌, ◌++◌, length, codes, ◌⊎◌}
use Rattle.std.specs.List.{flat_map}
use Rattle.std.specs.Fmt.{decimal}
use Rattle.tempo_clock.specs.declared.entry.TempoEntry.{TempoEntry}
use Rattle.smf_grammar.specs.declared.event.Event.{Event}
use Rattle.smf_grammar.specs.declared.fault.SmfFault.{SmfFault}
use Rattle.byte_io.specs.Moved.{Gave, GaveAll, Took}
use Rattle.smf_grammar.specs.Chunks.{most_bytes}
use Rattle.smf_grammar.specs.Files.{MidiFile, IsFile, Fault}
use Rattle.smf_grammar.specs.Contents.{entries_of, events_of, skipped_of}
use Rattle.tool_text.specs.declared.fault.ToolFault.{ToolFault}
use Rattle.tool_text.specs.declared.fault.ToolFault.TheVariants.{OutOfMemory, Read, Write, Smf}
use Rattle.text_forms.specs.Hex.{spaced_hex}
use Rattle.tool_text.specs.Gathered.{TookFirst}

-- ---- the text

-- the format, the number of tracks and the division word
abbrev pub head_line : MidiFile → List ℕ
head_line f =
    codes "format " ++ decimal f.format ++ codes " tracks " ++ decimal (length f.tracks)
    ++ codes " division " ++ decimal f.division ++ 10 ∷ []

-- a tempo entry
abbrev pub tempo_line : TempoEntry → List ℕ
tempo_line e = codes "tempo " ++ decimal e.tick ++ 32 ∷ [] ++ decimal e.tempo ++ 10 ∷ []

-- an event
abbrev pub event_line : Event → List ℕ
event_line e = decimal e.tick ++ spaced_hex e.message ++ 10 ∷ []

-- how many events are skipped
abbrev pub skipped_line : ℕ → List ℕ
skipped_line skipped = codes "skipped " ++ decimal skipped ++ 10 ∷ []

-- what a file says
abbrev pub dump_of : MidiFile → List ℕ
dump_of f =
    head_line f ++ flat_map tempo_line (entries_of f) ++ flat_map event_line (events_of f)
    ++ skipped_line (skipped_of f)

-- ---- what a sink took

-- A source was read to its end, what it gave is a file, and a sink took what the file says.
pub record IsDumped {R W : Type 0} (HasLeft : R → List ℕ → Type 0) (HasTaken : W → List ℕ → Type 0)
    (before after : R) (old new : W) : Type 0 where
  pub read : List ℕ
  pub gave : Gave HasLeft before read after
  pub ended : HasLeft after []
  pub bounded : length read ≤ most_bytes
  pub f : MidiFile
  pub file : IsFile read f
  pub took : Took HasTaken old (dump_of f) new

-- A source was read to its end, what it gave is a file, and a sink took the first part of what the
-- file says.
pub record IsFileDumpedInPart {R W : Type 0} (HasLeft : R → List ℕ → Type 0)
    (HasTaken : W → List ℕ → Type 0)
    (before after : R) (old new : W) : Type 0 where
  pub read : List ℕ
  pub gave : Gave HasLeft before read after
  pub ended : HasLeft after []
  pub f : MidiFile
  pub file : IsFile read f
  pub stopped : TookFirst HasTaken old (dump_of f) new

-- a sink took nothing, or a part of what a file says
abbrev pub IsDumpedInPart : {R W : Type 0} →
    (R → List ℕ → Type 0) → (W → List ℕ → Type 0) → R → R → W → W → Type 0
IsDumpedInPart HasLeft HasTaken before after old new =
    Took HasTaken old [] new ⊎ IsFileDumpedInPart HasLeft HasTaken before after old new

-- ---- what a fault says

-- What the reads gave, to the end or one byte more than a file may have, has this fault.
pub record HasFault {R : Type 0} (HasLeft : R → List ℕ → Type 0) (before after : R)
    (x : SmfFault) : Type 0 where
  pub read : List ℕ
  pub all : GaveAll HasLeft (most_bytes + 1) before read after
  pub fault : Fault read x

-- What the reads gave to the end is a file.
pub record IsAccepted {R : Type 0} (HasLeft : R → List ℕ → Type 0) (before after : R) : Type 0 where
  pub read : List ℕ
  pub all : GaveAll HasLeft (most_bytes + 1) before read after
  pub f : MidiFile
  pub file : IsFile read f

-- A fault of a file is that of the bytes, and a write fails only where the bytes are a file.
abbrev pub TellsFault : {R : Type 0} → (R → List ℕ → Type 0) → R → R → ToolFault → Type 0
TellsFault HasLeft before after (Smf x) = HasFault HasLeft before after x
TellsFault HasLeft before after Write = IsAccepted HasLeft before after
TellsFault HasLeft before after OutOfMemory = Unit {0}
TellsFault HasLeft before after Read = Unit {0}
