-- Representation: A file that is made of lines, as a maker has it.
use Rattle.std.specs.Prelude.{◌≡◌, ◌≢◌, ◌<◌, ◌^◌, ℕ, suc, ◌+◌, List, Ok, Err}
use Rattle.script_text.specs.Words.{without_return}
use Rattle.smf_grammar.specs.Files.{MidiFile}
use Rattle.smf_grammar.specs.Written.{written_file}
use Rattle.smf_make.specs.declared.fault.MakeFault.{MakeFault}
use Rattle.smf_make.specs.declared.fault.MakeFault.TheVariants.{OutOfMemory}
use Rattle.smf_make.specs.declared.maker.Maker.{Maker}
use Rattle.smf_make.specs.WrittenParts.{IsPartOf}
use Rattle.smf_make.specs.SaidFiles.{BegunFile, begun_after, file_begun, said_file}

-- ---- a maker

-- it has taken so many lines, and this is what they say
pub record IsMaking (m : Maker) (number : ℕ) (begun : BegunFile) : Type 0 where
  pub lines : m.lines ≡ number
  pub holds : IsPartOf m.bytes.items m.part begun

-- what a line makes of what a file is begun with
pub record IsLineTakenFrom (number : ℕ) (begun : BegunFile) (line : List ℕ)
    (m : Maker) : Type 0 where
  pub next : BegunFile
  pub after : begun_after (suc number) begun (without_return line) ≡ Ok next
  pub making : IsMaking m (suc number) next

-- a line was taken; lines are counted as far as 64 bits reach
abbrev pub IsLineTaken : Maker → List ℕ → Maker → Type 0
IsLineTaken old line new =
    (number : ℕ) (begun : BegunFile) → IsMaking old number begun → number + 1 < 2 ^ 64
    → IsLineTakenFrom number begun line new

-- a line was refused with its fault
abbrev pub IsLineRefused : Maker → List ℕ → MakeFault → Type 0
IsLineRefused old line fault =
    (number : ℕ) (begun : BegunFile) → IsMaking old number begun → number + 1 < 2 ^ 64
    → fault ≢ OutOfMemory → begun_after (suc number) begun (without_return line) ≡ Err fault

-- these bytes are the file that is begun, after so many lines
pub record IsFinishedFrom (number : ℕ) (begun : BegunFile) (bytes : List ℕ) : Type 0 where
  pub f : MidiFile
  pub whole : file_begun (suc number) begun ≡ Ok f
  pub written : bytes ≡ written_file f

abbrev pub IsFinished : Maker → List ℕ → Type 0
IsFinished m bytes =
    (number : ℕ) (begun : BegunFile) → IsMaking m number begun
    → IsFinishedFrom number begun bytes

abbrev pub IsUnfinished : Maker → MakeFault → Type 0
IsUnfinished m fault =
    (number : ℕ) (begun : BegunFile) → IsMaking m number begun → number + 1 < 2 ^ 64
    → file_begun (suc number) begun ≡ Err fault

-- ---- a text

-- these bytes are the file that the text says, written
pub record IsFileMade (text bytes : List ℕ) : Type 0 where
  pub f : MidiFile
  pub said : said_file text ≡ Ok f
  pub written : bytes ≡ written_file f
