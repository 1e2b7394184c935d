-- Definition: What a tool does with the stream that it is given.
use Rattle.std.specs.Prelude.{◌≡◌, ◌⊎◌, ℕ, Bool, true, List}
use Rattle.program_tasks.specs.declared.choice.Stream.{Stream}
use Rattle.program_tasks.specs.declared.choice.Stream.TheVariants.{Standard, Path}
use Rattle.program_tasks.specs.declared.choice.Task.{Task}
use Rattle.program_tasks.specs.declared.choice.Tool.{Tool}
use Rattle.tool_text.specs.declared.fault.ToolFault.{ToolFault}
use Rattle.tool_text.specs.declared.fault.ToolFault.TheVariants as faults
use Rattle.program_tasks.specs.declared.program_fault.ProgramFault.{ProgramFault}
use Rattle.program_tasks.specs.Program.{program_fault_text, told_text, exit_status}
use Rattle.tool_text.specs.Stream.{GaveTooMany}
use Rattle.program_tasks.specs.Tools.{IsPrinted, MayTell}

-- The file at the path was opened, and the tool printed what the reads of it gave.
pub record IsFilePrinted {R W : Type 0} (IsOpened : List ℕ → R → Type 0)
    (HasLeft : R → List ℕ → Type 0)
    (HasTaken : W → List ℕ → Type 0) (tool : Tool) (path : List ℕ) (old new : W) : Type 0 where
  pub before : R
  pub after : R
  pub opened : IsOpened path before
  pub printed : IsPrinted HasLeft HasTaken tool before after old new

-- what is printed of the stream: of standard input, or of a file, of which standard input has no
-- part
abbrev pub IsStreamPrinted : {R I W : Type 0} → (List ℕ → R → Type 0) → (R → List ℕ → Type 0)
    → (I → List ℕ → Type 0) →
    (W → List ℕ → Type 0) → Tool → Stream → I → I → W → W → Type 0
IsStreamPrinted IsOpened HasLeft HasInput HasTaken tool Standard before after old new =
    IsPrinted HasInput HasTaken tool before after old new
IsStreamPrinted IsOpened HasLeft HasInput HasTaken tool (Path path) before after old new =
    IsFilePrinted IsOpened HasLeft HasTaken tool path.now old new × (after ≡ before)

-- the task's tool printed what it makes of the task's stream
abbrev pub IsDone : {R I W : Type 0} → (List ℕ → R → Type 0) → (R → List ℕ → Type 0)
    → (I → List ℕ → Type 0) →
    (W → List ℕ → Type 0) → Task → I → I → W → W → Type 0
IsDone IsOpened HasLeft HasInput HasTaken task before after old new =
    IsStreamPrinted IsOpened HasLeft HasInput HasTaken task.tool task.stream before after old new

-- A tool stopped for a reason: the source failed or gave too many bytes, the sink is stuck, or the
-- bytes are no file.
pub record IsStopped {R : Type 0} (HasLeft : R → List ℕ → Type 0) (failed : R → Bool)
    (stuck : Type 0) (tool : Tool)
    (before after : R) (fault : ToolFault) : Type 0 where
  pub told : MayTell HasLeft tool before after fault
  pub read : fault ≡ faults.Read → (failed after ≡ true) ⊎ GaveTooMany HasLeft before after
  pub write : fault ≡ faults.Write → stuck

-- so it did over the file that was opened at the path
pub record IsFileStopped {R : Type 0} (IsOpened : List ℕ → R → Type 0)
    (HasLeft : R → List ℕ → Type 0)
    (failed : R → Bool) (stuck : Type 0) (tool : Tool) (path : List ℕ)
    (fault : ToolFault) : Type 0 where
  pub before : R
  pub after : R
  pub opened : IsOpened path before
  pub stopped : IsStopped HasLeft failed stuck tool before after fault

-- so it did over the stream: over standard input, or over a file, if that could be opened
abbrev pub IsStreamStopped : {R I : Type 0} → (List ℕ → R → Type 0) → (List ℕ → Type 0)
    → (R → List ℕ → Type 0) →
    (R → Bool) → (I → List ℕ → Type 0) → (I → Bool) → Type 0 → Tool → Stream → I → I → ToolFault
    → Type 0
IsStreamStopped IsOpened CannotOpen HasLeft failed HasInput input_failed stuck tool Standard before
    after fault =
    IsStopped HasInput input_failed stuck tool before after fault
IsStreamStopped IsOpened CannotOpen HasLeft failed HasInput input_failed stuck tool
    (Path path) before after fault =
    (CannotOpen path.now × (fault ≡ faults.Read))
    ⊎ IsFileStopped IsOpened HasLeft failed stuck tool path.now fault

-- The task's tool stopped over the task's stream, and the fault tells its fault of this stream.
pub record IsToolFault {R I : Type 0} (IsOpened : List ℕ → R → Type 0)
    (CannotOpen : List ℕ → Type 0)
    (HasLeft : R → List ℕ → Type 0) (failed : R → Bool) (HasInput : I → List ℕ → Type 0)
    (input_failed : I → Bool)
    (stuck : Type 0) (task : Task) (before after : I) (fault : ProgramFault) : Type 0 where
  pub of_tool : ToolFault
  pub text : program_fault_text fault ≡ told_text task.stream of_tool
  pub status : exit_status fault ≡ 1
  pub stopped : IsStreamStopped IsOpened CannotOpen HasLeft failed HasInput input_failed stuck
      task.tool task.stream before after of_tool
