-- Representation: What was read and printed of a file, whether with places or without.
use Rattle.std.specs.Prelude.{◌≤◌, ℕ, Bool, List, [], length}
use Rattle.byte_io.specs.Moved.{Gave}
use Rattle.smf_grammar.specs.Chunks.{most_bytes}
use Rattle.smf_grammar.specs.Files.{MidiFile, IsFile}
use Rattle.smf_text.specs.PlacedTexts.{placed_text}

-- a source was read to its end, what it gave is a file, and this was printed of its text
pub record IsFileRead {R : Type 0} (HasLeft : R → List ℕ → Type 0) (before after : R)
    (placed : Bool) (IsPrinted : List ℕ → Type 0) : Type 0 where
  pub read : List ℕ
  pub gave : Gave HasLeft before read after
  pub ended : HasLeft after []
  pub bounded : length read ≤ most_bytes
  pub f : MidiFile
  pub file : IsFile read f
  pub printed : IsPrinted (placed_text placed read file)
