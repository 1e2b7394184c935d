-- Definition: A Standard MIDI File that is made of the text of a stream, and why none is.
use Rattle.std.specs.Prelude.{◌≡◌, ◌⊎◌, ℕ, Bool, List}
use Rattle.program_tasks.specs.declared.choice.Stream.{Stream}
use Rattle.program_tasks.specs.declared.choice.Stream.TheVariants.{Standard, Path}
use Rattle.program_tasks.specs.declared.program_fault.ProgramFault.{ProgramFault}
use Rattle.program_tasks.specs.declared.program_fault.ProgramFault.TheVariants.{OutIsText}
use Rattle.program_tasks.specs.Program.{program_fault_text, told_making, exit_status}
use Rattle.program_tasks.specs.Recorded.{IsFileWritten}
use Rattle.smf_make.specs.declared.fault.MakeFault.{MakeFault}
use Rattle.smf_make.specs.declared.fault.MakeFault.TheVariants as making
use Rattle.smf_make.specs.Streamed.{IsTextMade, IsTextRefused}

-- ---- the bytes

-- These bytes are the file that the text at the path says.
pub record IsMadeOfFile {R : Type 0} (IsOpened : List ℕ → R → Type 0)
    (HasLeft : R → List ℕ → Type 0) (path bytes : List ℕ) : Type 0 where
  pub before : R
  pub after : R
  pub opened : IsOpened path before
  pub made : IsTextMade HasLeft before after bytes

-- these bytes are the file that the stream's text says: that of standard input, or of a file, of
-- which standard input has no part
abbrev pub IsStreamMade : {R I : Type 0} → (List ℕ → R → Type 0) → (R → List ℕ → Type 0)
    → (I → List ℕ → Type 0) → Stream → I → I → List ℕ → Type 0
IsStreamMade IsOpened HasLeft HasInput Standard before after bytes =
    IsTextMade HasInput before after bytes
IsStreamMade IsOpened HasLeft HasInput (Path path) before after bytes =
    IsMadeOfFile IsOpened HasLeft path.now bytes × (after ≡ before)

-- ---- the file

-- the text's path leads to another file than this one
abbrev pub IsTextApart : (List ℕ → List ℕ → Type 0) → Stream → List ℕ → Type 0
IsTextApart AreApart Standard out = Unit {0}
IsTextApart AreApart (Path path) out = AreApart path.now out

-- The file that the stream's text says was written to this path, at which the text does not stand.
pub record IsMade {R I W : Type 0} (IsOpened : List ℕ → R → Type 0) (HasLeft : R → List ℕ → Type 0)
    (HasInput : I → List ℕ → Type 0) (AreApart : List ℕ → List ℕ → Type 0)
    (IsBegun : List ℕ → W → Type 0) (HasTaken : W → List ℕ → Type 0)
    (IsStored : List ℕ → W → Type 0) (stream : Stream) (out : List ℕ)
    (before after : I) : Type 0 where
  pub bytes : List ℕ
  pub apart : IsTextApart AreApart stream out
  pub made : IsStreamMade IsOpened HasLeft HasInput stream before after bytes
  pub written : IsFileWritten IsBegun HasTaken IsStored out bytes

-- ---- why none is made

-- the text's path leads to this file
abbrev pub IsOwnText : (List ℕ → List ℕ → Type 0) → Stream → List ℕ → Type 0
IsOwnText AreOne Standard out = ⊥
IsOwnText AreOne (Path path) out = AreOne path.now out

-- the file would take the place of its own text
abbrev pub IsOfOwnText : (List ℕ → List ℕ → Type 0) → Stream → List ℕ → ProgramFault → Type 0
IsOfOwnText AreOne stream out (OutIsText told) = (told.now ≡ out) × IsOwnText AreOne stream out
IsOfOwnText AreOne stream out _ = ⊥

-- No file can be made of the text at the path.
pub record IsFileRefused {R : Type 0} (IsOpened : List ℕ → R → Type 0)
    (HasLeft : R → List ℕ → Type 0) (failed : R → Bool) (path : List ℕ)
    (fault : MakeFault) : Type 0 where
  pub before : R
  pub after : R
  pub opened : IsOpened path before
  pub refused : IsTextRefused HasLeft failed before after fault

-- no file can be made of the stream's text: of standard input, or of a file, if that could be
-- opened
abbrev pub IsStreamRefused : {R I : Type 0} → (List ℕ → R → Type 0) → (List ℕ → Type 0)
    → (R → List ℕ → Type 0) → (R → Bool) → (I → List ℕ → Type 0) → (I → Bool) → Stream → I → I
    → MakeFault → Type 0
IsStreamRefused IsOpened CannotOpen HasLeft failed HasInput input_failed Standard before after
    fault =
    IsTextRefused HasInput input_failed before after fault
IsStreamRefused IsOpened CannotOpen HasLeft failed HasInput input_failed (Path path) before after
    fault =
    (CannotOpen path.now × (fault ≡ making.Read))
    ⊎ IsFileRefused IsOpened HasLeft failed path.now fault

-- No file can be made of the stream's text, and the fault tells why.
pub record IsMakingStopped {R I : Type 0} (IsOpened : List ℕ → R → Type 0)
    (CannotOpen : List ℕ → Type 0) (HasLeft : R → List ℕ → Type 0) (failed : R → Bool)
    (HasInput : I → List ℕ → Type 0) (input_failed : I → Bool) (stream : Stream)
    (before after : I) (fault : ProgramFault) : Type 0 where
  pub of_text : MakeFault
  pub text : program_fault_text fault ≡ told_making stream of_text
  pub status : exit_status fault ≡ 1
  pub stopped : IsStreamRefused IsOpened CannotOpen HasLeft failed HasInput input_failed stream
      before after of_text
