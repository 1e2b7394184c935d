-- Definition: That all which a Standard MIDI File says was printed with the place of each line, or
-- a part of it.
use Rattle.std.specs.Prelude.{◌≤◌, ◌⊎◌, ℕ, true, List, [], length}
use Rattle.byte_io.specs.Moved.{Gave, Took}
use Rattle.smf_grammar.specs.Chunks.{most_bytes}
use Rattle.smf_grammar.specs.Files.{MidiFile, IsFile}
use Rattle.tool_text.specs.Gathered.{TookFirst}
use Rattle.smf_text.specs.PlacedTexts.{placed_text}

-- A source was read to its end, what it gave is a file, and a sink took all that the file says,
-- with places.
pub record IsPlacesDumped {R W : Type 0} (HasLeft : R → List ℕ → Type 0)
    (HasTaken : W → List ℕ → Type 0)
    (before after : R) (old new : W) : Type 0 where
  pub read : List ℕ
  pub gave : Gave HasLeft before read after
  pub ended : HasLeft after []
  pub bounded : length read ≤ most_bytes
  pub f : MidiFile
  pub file : IsFile read f
  pub took : Took HasTaken old (placed_text true read file) new

-- A source was read to its end, what it gave is a file, and a sink took the first part of all that
-- the file says, with places.
pub record IsFilePlacesDumpedInPart {R W : Type 0} (HasLeft : R → List ℕ → Type 0)
    (HasTaken : W → List ℕ → Type 0)
    (before after : R) (old new : W) : Type 0 where
  pub read : List ℕ
  pub gave : Gave HasLeft before read after
  pub ended : HasLeft after []
  pub f : MidiFile
  pub file : IsFile read f
  pub stopped : TookFirst HasTaken old (placed_text true read file) new

-- a sink took nothing, or a part of all that a file says, with places
abbrev pub IsPlacesDumpedInPart : {R W : Type 0} →
    (R → List ℕ → Type 0) → (W → List ℕ → Type 0) → R → R → W → W → Type 0
IsPlacesDumpedInPart HasLeft HasTaken before after old new =
    Took HasTaken old [] new ⊎ IsFilePlacesDumpedInPart HasLeft HasTaken before after old new
