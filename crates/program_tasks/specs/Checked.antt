-- Definition: Files that were checked, and why the verdicts on them were not all printed.
use Rattle.std.specs.Prelude.{◌≡◌, ℕ, Bool, List}
use Rattle.file_store.specs.declared.standing.Standing.{Standing}
use Rattle.program_tasks.specs.declared.choice.Stream.TheVariants.{Standard}
use Rattle.program_tasks.specs.declared.program_fault.ProgramFault.{ProgramFault}
use Rattle.program_tasks.specs.Program.{program_fault_text, told_text, exit_status}
use Rattle.smf_check.specs.declared.answer.CheckAnswer.{CheckAnswer}
use Rattle.smf_check.specs.Checks.{IsChecked}
use Rattle.smf_check.specs.Named.{ArePathsOf}
use Rattle.smf_check.specs.Verdicts.{IsJudged}
use Rattle.tool_text.specs.declared.fault.ToolFault.{ToolFault}
use Rattle.tool_text.specs.declared.fault.ToolFault.TheVariants.{Write}
use Rattle.tool_text.specs.Faults.{IsOutput}

-- the files that words name were judged, each by what was read of it, and a sink took the lines
abbrev pub AreFilesChecked : {R W : Type 0} → (List ℕ → R → Type 0) → (R → List ℕ → Type 0)
    → (List ℕ → Type 0) → (List ℕ → Type 0) → (R → Bool) → (List ℕ → Standing → Type 0)
    → (List ℕ → List (List ℕ) → Type 0) → (W → List ℕ → Type 0) → List (List ℕ) → Bool
    → Bool → CheckAnswer → W → W → Type 0
AreFilesChecked IsOpened HasLeft CannotOpen CannotList failed IsStanding HasNames HasTaken words
    quiet lenient answer old new =
    IsChecked (IsJudged lenient IsOpened HasLeft CannotOpen failed IsStanding)
    (ArePathsOf lenient CannotList HasNames IsStanding words) HasTaken quiet answer old new

-- Out of memory, or the sink is stuck, and the fault tells so.
pub record IsCheckingStopped (stuck : Type 0) (fault : ProgramFault) : Type 0 where
  pub of_tool : ToolFault
  pub text : program_fault_text fault ≡ told_text Standard of_tool
  pub status : exit_status fault ≡ 1
  pub is : IsOutput of_tool
  pub write : of_tool ≡ Write → stuck
