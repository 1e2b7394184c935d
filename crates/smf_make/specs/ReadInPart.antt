-- Representation: A text of which a part has come, as a maker has it.
use Rattle.std.specs.Prelude.{◌≡◌, ◌≢◌, ◌≤◌, ℕ, suc, ◌+◌, false, List, ◌++◌, length, Err}
use Rattle.std.specs.List.{AllByRecursion}
use Rattle.script_text.specs.Words.{is_line_end, lines}
use Rattle.smf_make.specs.declared.fault.MakeFault.{MakeFault}
use Rattle.smf_make.specs.declared.fault.MakeFault.TheVariants.{OutOfMemory}
use Rattle.smf_make.specs.declared.maker.Maker.{Maker}
use Rattle.smf_make.specs.Making.{IsMaking, IsFileMade}
use Rattle.smf_make.specs.SaidFiles.{BegunFile, file_from, said_file, without_empty_last}
use Rattle.smf_make.specs.Streamed.{most_text}

-- no line end stands in it
abbrev pub IsUnended : List ℕ → Type 0
IsUnended part = AllByRecursion (λ b. is_line_end b ≡ false) part

-- It has taken the lines of a text that have ended, and this stands behind them: with what is still
-- to come, it says the rest of the file.
pub record IsAsFar (m : Maker) (kept text : List ℕ) : Type 0 where
  pub number : ℕ
  pub begun : BegunFile
  pub making : IsMaking m number begun
  pub early : number + length kept ≤ length text
  pub unended : IsUnended kept
  pub same : (rest : List ℕ)
      → file_from (suc number) begun (without_empty_last (lines (kept ++ rest)))
      ≡ said_file (text ++ rest)

-- a piece was taken, with which the text is not too long
abbrev pub IsPieceTaken : Maker → List ℕ → List ℕ → List ℕ → Maker → Type 0
IsPieceTaken old kept piece next new =
    (text : List ℕ) → IsAsFar old kept text → length (text ++ piece) ≤ most_text
    → IsAsFar new next (text ++ piece)

-- a piece was refused with a fault, which each text has that begins so
abbrev pub IsPieceRefused : Maker → List ℕ → List ℕ → MakeFault → Type 0
IsPieceRefused old kept piece fault =
    (text : List ℕ) → IsAsFar old kept text → length (text ++ piece) ≤ most_text
    → fault ≢ OutOfMemory → (rest : List ℕ) → said_file ((text ++ piece) ++ rest) ≡ Err fault

-- where nothing more comes, these bytes are the file
abbrev pub IsTextEnded : Maker → List ℕ → List ℕ → Type 0
IsTextEnded m kept bytes =
    (text : List ℕ) → IsAsFar m kept text → length text ≤ most_text → IsFileMade text bytes

-- where nothing more comes, the text has this fault
abbrev pub IsTextUnended : Maker → List ℕ → MakeFault → Type 0
IsTextUnended m kept fault =
    (text : List ℕ) → IsAsFar m kept text → length text ≤ most_text
    → fault ≢ OutOfMemory → said_file text ≡ Err fault
