-- Representation: What was read and mended, before anything is printed of it.
use Rattle.std.specs.Prelude.{◌+◌, ℕ, List}
use Rattle.byte_io.specs.Moved.{GaveAll}
use Rattle.smf_grammar.specs.Chunks.{most_bytes}
use Rattle.smf_grammar.specs.Files.{MidiFile, IsFile}
use Rattle.smf_mend.specs.declared.forgiven.Mended.{Mended}
use Rattle.smf_mend.specs.Unwrapping.{IsMendedIn}

-- the bytes that were written are a strict file
abbrev pub IsStrict : Mended → Type 0
IsStrict m = (f : MidiFile) × IsFile m.bytes.items f

-- A source was read to its end, and this came of the file in what it gave.
pub record IsReadLeniently {R : Type 0} (HasLeft : R → List ℕ → Type 0) (before after : R)
    (m : Mended) : Type 0 where
  pub read : List ℕ
  pub all : GaveAll HasLeft (most_bytes + 1) before read after
  pub mended : IsMendedIn read m
