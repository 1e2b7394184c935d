-- Definition: A file that is made of a text which a source gives.
use Rattle.std.specs.Prelude.{◌≡◌, ◌≤◌, ◌⊎◌, ℕ, Bool, true, false, List, [], ◌++◌, length, Err}
use Rattle.byte_io.specs.Moved.{Gave}
use Rattle.tool_text.specs.Stream.{GaveMoreThan}
use Rattle.smf_make.specs.declared.fault.MakeFault.{MakeFault}
use Rattle.smf_make.specs.declared.fault.MakeFault.TheVariants.{Line, TooLarge, OutOfMemory, Read, TooLong}
use Rattle.smf_make.specs.declared.stream.TheConstants.{MOST_TEXT}
use Rattle.smf_make.specs.Making.{IsFileMade}
use Rattle.smf_make.specs.SaidFiles.{said_file}

-- how many bytes a text has at most of which a file is made
abbrev pub most_text : ℕ
most_text = MOST_TEXT

-- A source was read to its end, and these bytes are the file that the text says which it gave.
pub record IsTextMade {R : Type 0} (HasLeft : R → List ℕ → Type 0) (before after : R)
    (bytes : List ℕ) : Type 0 where
  pub read : List ℕ
  pub gave : Gave HasLeft before read after
  pub ended : HasLeft after []
  pub bounded : length read ≤ most_text
  pub made : IsFileMade read bytes

-- Reads gave a text that has this fault: they came to its end, or each text that begins so has it.
pub record HasTextFault {R : Type 0} (HasLeft : R → List ℕ → Type 0) (before after : R)
    (fault : MakeFault) : Type 0 where
  pub read : List ℕ
  pub gave : Gave HasLeft before read after
  pub said : (HasLeft after [] × (said_file read ≡ Err fault))
      ⊎ ((rest : List ℕ) → said_file (read ++ rest) ≡ Err fault)

-- why no file was made of the text that a source gives
abbrev pub IsTextRefused : {R : Type 0} → (R → List ℕ → Type 0) → (R → Bool) → R → R
    → MakeFault → Type 0
IsTextRefused HasLeft failed before after (Line line expected) =
    HasTextFault HasLeft before after (Line line expected)
IsTextRefused HasLeft failed before after (TooLarge line) =
    HasTextFault HasLeft before after (TooLarge line)
IsTextRefused HasLeft failed before after OutOfMemory = failed after ≡ false
IsTextRefused HasLeft failed before after Read = failed after ≡ true
IsTextRefused HasLeft failed before after TooLong = GaveMoreThan most_text HasLeft before after
