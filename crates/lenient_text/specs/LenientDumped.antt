-- Definition: That what a file says by the lenient grammar was printed, and what was forgiven of
-- it; or a part of that.
use Rattle.std.specs.Prelude.{◌+◌, ◌⊎◌, ℕ, List, [], ◌∷◌, ◌++◌, Option, Some, None}
use Rattle.byte_io.specs.Moved.{Gave, GaveAll, Took}
use Rattle.smf_grammar.specs.Chunks.{most_bytes}
use Rattle.smf_grammar.specs.Files.{MidiFile}
use Rattle.smf_grammar.specs.declared.fault.SmfFault.{SmfFault}
use Rattle.smf_mend.specs.declared.forgiven.Forgiven.{Forgiven}
use Rattle.smf_mend.specs.declared.forgiven.Mended.{Mended}
use Rattle.smf_mend.specs.declared.told.Lenience.{Lenience}
use Rattle.smf_mend.specs.declared.told.Lenience.TheVariants.{RunningStatus, ProgramChange}
use Rattle.smf_mend.specs.Unwrapping.{IsMendedIn, IsRefusedIn}
use Rattle.smf_mend.specs.Told.{forgiven_text}
use Rattle.tool_text.specs.declared.fault.ToolFault.{ToolFault}
use Rattle.tool_text.specs.declared.fault.ToolFault.TheVariants.{OutOfMemory, Read, Write, Smf}
use Rattle.tool_text.specs.Gathered.{TookFirst}

-- ---- the text

-- a kind, and what was forgiven of it: no line where nothing was
abbrev pub forgiven_line : Lenience → Option Forgiven → List ℕ
forgiven_line kind None = []
forgiven_line kind (Some forgiven) = forgiven_text kind forgiven ++ 10 ∷ []

-- both kinds
abbrev pub forgiven_lines : Mended → List ℕ
forgiven_lines m =
    forgiven_line RunningStatus m.running_status ++ forgiven_line ProgramChange m.high_data

-- ---- what a sink took

-- A source was read to its end, what it gave is a file by the lenient grammar, perhaps in a
-- container, and a sink took this text of the file, and then what was forgiven.
pub record IsDumpedLeniently {R W : Type 0} (text : MidiFile → List ℕ)
    (HasLeft : R → List ℕ → Type 0) (HasTaken : W → List ℕ → Type 0)
    (before after : R) (old new : W) : Type 0 where
  pub read : List ℕ
  pub gave : Gave HasLeft before read after
  pub ended : HasLeft after []
  pub m : Mended
  pub mended : IsMendedIn read m
  pub took : Took HasTaken old (text mended.mended.f ++ forgiven_lines m) new

-- The same of a sink that took the first part of it.
pub record IsFileDumpedLenientlyInPart {R W : Type 0} (text : MidiFile → List ℕ)
    (HasLeft : R → List ℕ → Type 0) (HasTaken : W → List ℕ → Type 0)
    (before after : R) (old new : W) : Type 0 where
  pub read : List ℕ
  pub gave : Gave HasLeft before read after
  pub ended : HasLeft after []
  pub m : Mended
  pub mended : IsMendedIn read m
  pub stopped : TookFirst HasTaken old (text mended.mended.f ++ forgiven_lines m) new

-- a sink took nothing, or a part
abbrev pub IsDumpedLenientlyInPart : {R W : Type 0} → (MidiFile → List ℕ)
    → (R → List ℕ → Type 0) → (W → List ℕ → Type 0) → R → R → W → W → Type 0
IsDumpedLenientlyInPart text HasLeft HasTaken before after old new =
    Took HasTaken old [] new
    ⊎ IsFileDumpedLenientlyInPart text HasLeft HasTaken before after old new

-- ---- what a fault says

-- What the reads gave, to the end or one byte more than a file may have, has this fault.
pub record HasLenientFault {R : Type 0} (HasLeft : R → List ℕ → Type 0) (before after : R)
    (x : SmfFault) : Type 0 where
  pub read : List ℕ
  pub all : GaveAll HasLeft (most_bytes + 1) before read after
  pub fault : IsRefusedIn read x

-- What the reads gave to the end is a file by the lenient grammar.
pub record IsLenientlyAccepted {R : Type 0} (HasLeft : R → List ℕ → Type 0)
    (before after : R) : Type 0 where
  pub read : List ℕ
  pub all : GaveAll HasLeft (most_bytes + 1) before read after
  pub m : Mended
  pub mended : IsMendedIn read m

-- A fault of a file is that of the bytes, and a write fails only where the bytes are a file.
abbrev pub TellsLenientFault : {R : Type 0} → (R → List ℕ → Type 0) → R → R → ToolFault → Type 0
TellsLenientFault HasLeft before after (Smf x) = HasLenientFault HasLeft before after x
TellsLenientFault HasLeft before after Write = IsLenientlyAccepted HasLeft before after
TellsLenientFault HasLeft before after OutOfMemory = Unit {0}
TellsLenientFault HasLeft before after Read = Unit {0}
