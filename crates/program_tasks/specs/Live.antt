-- Definition: What becomes of lines that come while the sequencer runs.
use Rattle.std.specs.Prelude.{◌≡◌, ◌⊎◌, ℕ, ◌-◌, ◌^◌, Bool, true, false, List, Option, Result}
use Rattle.file_store.specs.declared.standing.Standing.{Standing}
use Rattle.seq_session.specs.Sessions.{FolderContents}
use Rattle.session_live.specs.Answers.{live_text}
use Rattle.session_live.specs.Talk.{most_text}
use Rattle.tool_text.specs.declared.fault.ToolFault.{ToolFault}
use Rattle.tool_text.specs.declared.fault.ToolFault.TheVariants as faults
use Rattle.tool_text.specs.Faults.{IsOfStream}
use Rattle.tool_text.specs.Stream.{IsRenderedUpTo, IsRenderedInPart, IsRenderedSoFar, GaveMoreThan}
use Rattle.program_tasks.specs.declared.choice.Stream.TheVariants.{Standard}
use Rattle.program_tasks.specs.declared.program_fault.ProgramFault.{ProgramFault}
use Rattle.program_tasks.specs.Program.{program_fault_text, told_text, exit_status}
use Rattle.program_tasks.specs.Subcommands.{AreFilesOf}

module _ {R I W N : Type 0} (IsOpened : List ℕ → R → Type 0) (HasLeft : R → List ℕ → Type 0)
    (CannotOpen : List ℕ → Type 0) (failed : R → Bool) (IsStanding : List ℕ → Standing → Type 0)
    (HasNames : List ℕ → List (List ℕ) → Type 0) where
  -- The source was read to its end, and the sink took the answers to its lines, of clients that may
  -- play the files of the folder.
  pub record AreLinesAnswered (HasInput : I → List ℕ → Type 0) (HasTaken : W → List ℕ → Type 0)
      (HasTold : N → List ℕ → Type 0) (is_lenient : Bool) (folder : Option (List ℕ))
      (asked left : I) (old new : W) (before after : N) : Type 0 where
    pub files : FolderContents
    pub are : AreFilesOf IsOpened HasLeft CannotOpen failed IsStanding HasNames HasTold is_lenient false
        folder before after files
    pub answered : IsRenderedUpTo most_text HasInput HasTaken (live_text files) asked left old new

  -- The answers stopped for a reason, once the folder was read: the sink took the first part of
  -- them, and where a read failed the answers to all lines that came before it.
  pub record IsAnsweringStopped (HasInput : I → List ℕ → Type 0) (input_failed : I → Bool)
      (HasTaken : W → List ℕ → Type 0) (stuck : Type 0) (HasTold : N → List ℕ → Type 0)
      (is_lenient : Bool) (folder : Option (List ℕ)) (asked left : I) (old new : W) (before after : N)
      (fault : ProgramFault) : Type 0 where
    pub files : FolderContents
    pub are : AreFilesOf IsOpened HasLeft CannotOpen failed IsStanding HasNames HasTold is_lenient false
        folder before after files
    pub short : IsRenderedInPart HasInput HasTaken (live_text files) asked left old new
    pub of_stream : ToolFault
    pub text : program_fault_text fault ≡ told_text Standard of_stream
    pub status : exit_status fault ≡ 1
    pub only : IsOfStream of_stream
    pub read : of_stream ≡ faults.Read → (input_failed left ≡ true)
        ⊎ GaveMoreThan most_text HasInput asked left
    pub prompt : of_stream ≡ faults.Read → input_failed left ≡ true →
        IsRenderedSoFar HasInput HasTaken (live_text files) asked left old new
    pub write : of_stream ≡ faults.Write → stuck
