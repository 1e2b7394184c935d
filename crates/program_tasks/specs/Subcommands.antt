-- Definition: What the subcommands that run scripts do with a session.
use Rattle.std.specs.Prelude.{◌≡◌, ◌⊎◌, ◌++◌, ℕ, Bool, true, false, List, Option, Result, take, map}
use Rattle.std.specs.Option.{option_map}
use Rattle.byte_io.specs.Moved.{Took}
use Rattle.file_store.specs.declared.standing.Standing.{Standing}
use Rattle.script_text.specs.declared.script.TheConstants.{MOST_FILES}
use Rattle.seq_session.specs.Sessions.{FolderContents}
use Rattle.program_tasks.specs.FolderFiles.{FoundFiles, LostFile, AreOpened}
use Rattle.smf_grammar.specs.Played.{as_played}
use Rattle.smf_mend.specs.declared.forgiven.Mended.{Mended}
use Rattle.program_tasks.specs.declared.left_out.WhyLeftOut.{WhyLeftOut}
use Rattle.program_tasks.specs.ForgivenFiles.{all_forgiven}
use Rattle.program_tasks.specs.declared.program_fault.ProgramFault.{ProgramFault}
use Rattle.program_tasks.specs.LeftOut.{all_lost, lost_lines}
use Rattle.program_tasks.specs.declared.recording.Recording.{Recording}
use Rattle.program_tasks.specs.declared.session.Session.{Session}
use Rattle.program_tasks.specs.Faults.{IsOfRefusal, IsOfScripts, IsOfSharing, IsOfWriting}
use Rattle.program_tasks.specs.declared.explanation.Explanation.{Explanation}
use Rattle.program_tasks.specs.declared.run_answer.RunAnswer.{RunAnswer}
use Rattle.program_tasks.specs.Explained.{are_none, explanation_lines, told_where, run_answer, IsSessionExplained}
use Rattle.program_tasks.specs.declared.form_word.Printing.{Printing}
use Rattle.program_tasks.specs.declared.log_folder.LogFolder.{LogFolder}
use Rattle.program_tasks.specs.LogFiles.{AreLogsApart, IsSessionStreamed, IsOfLogs}
use Rattle.program_tasks.specs.Opened.{IsFolder}
use Rattle.program_tasks.specs.declared.answer.CircleAnswer.{CircleAnswer}
use Rattle.program_tasks.specs.declared.question.CircleQuestion.{CircleQuestion}
use Rattle.program_tasks.specs.Circles.{IsCirclePrinted, IsOfTime}
use Rattle.program_tasks.specs.declared.why_question.WhyQuestion.{WhyQuestion}
use Rattle.program_tasks.specs.Why.{IsWhyPrinted}
use Rattle.program_tasks.specs.Printed.{IsSessionPrinted}
use Rattle.program_tasks.specs.Recorded.{IsSessionRecorded}

module _ {R : Type 0} (IsOpened : List ℕ → R → Type 0) (HasLeft : R → List ℕ → Type 0)
    (CannotOpen : List ℕ → Type 0)
    (failed : R → Bool) (IsStanding : List ℕ → Standing → Type 0)
    (HasNames : List ℕ → List (List ℕ) → Type 0) where
  -- These are the files of the folder that can be played, from what was taken of each. What was
  -- forgiven of them was told, and then of each of the others a line, where it is asked for with
  -- why it is left out.
  pub record AreFilesOf {N : Type 0} (HasTold : N → List ℕ → Type 0) (is_lenient explains : Bool)
      (folder : Option (List ℕ)) (before after : N) (files : FolderContents) : Type 0 where
    pub names : List (List ℕ)
    pub contents : List (Result Mended WhyLeftOut)
    pub capitals : List (List ℕ)
    pub read : IsFolder IsOpened HasLeft CannotOpen failed IsStanding is_lenient HasNames folder
        names contents capitals
    pub found : FoundFiles
    pub opened : AreOpened (take MOST_FILES names) contents found
    pub names_are : files.names ≡ found.names
    pub files_are : files.files ≡ map as_played found.files
    pub lost : List LostFile
    pub lost_are : lost ≡ all_lost explains found.left_out names capitals
    pub told : Took HasTold before
        (all_forgiven (take MOST_FILES names) contents ++ lost_lines explains lost) after

  -- The session was run, and the sink took its logs and, where it is asked for, the listing.
  pub record IsRunPrinted {W N : Type 0} (HasTaken : W → List ℕ → Type 0)
      (HasTold : N → List ℕ → Type 0)
      (session : Session) (printing : Printing) (old new : W) (before after : N) : Type 0 where
    pub files : FolderContents
    pub are : AreFilesOf HasTold session.is_lenient false (option_map (λ d. d.now) session.dir) before after files
    pub printed :
        IsSessionPrinted IsOpened HasLeft HasTaken files session.until printing
        session.scripts.items old new

  -- The session was run, and each client's log was written to its file in a folder, none of which
  -- is a script. Where it is asked for, the sink took the listing.
  pub record IsRunStreamed {V W N : Type 0} (IsPlaced : List ℕ → Bool → V → Type 0)
      (HasWritten : V → List ℕ → Type 0) (AreApart : List ℕ → List ℕ → Type 0)
      (HasTaken : W → List ℕ → Type 0) (HasTold : N → List ℕ → Type 0)
      (session : Session) (logs : LogFolder) (listed : Bool) (old new : W)
      (before after : N) : Type 0 where
    pub files : FolderContents
    pub are : AreFilesOf HasTold session.is_lenient false (option_map (λ d. d.now) session.dir) before after files
    pub streamed :
        IsSessionStreamed IsOpened HasLeft IsPlaced HasWritten HasTaken files session.until logs
        listed session.scripts.items old new
    pub apart : AreLogsApart AreApart logs.path.now session.scripts.items session.scripts.items

  -- A log could not be written, once the folder was read.
  pub record IsStreamingStopped {V N : Type 0} (IsPlaced : List ℕ → Bool → V → Type 0)
      (HasWritten : V → List ℕ → Type 0) (writer_failed takes_some : V → Bool)
      (CannotPlace : List ℕ → Type 0) (HasTold : N → List ℕ → Type 0) (session : Session)
      (logs : LogFolder) (before after : N) (fault : ProgramFault) : Type 0 where
    pub files : FolderContents
    pub are : AreFilesOf HasTold session.is_lenient false (option_map (λ d. d.now) session.dir) before after files
    pub why : IsOfLogs IsOpened HasLeft IsPlaced HasWritten writer_failed takes_some CannotPlace
        files session.until logs session.scripts.items fault

  -- The session was run, and the sink took what it takes of a run; what the run did not do was told
  -- behind the files that are left out, and the answer is that of all of this.
  pub record IsRunExplained {W N : Type 0} (HasTaken : W → List ℕ → Type 0)
      (HasTold : N → List ℕ → Type 0)
      (session : Session) (printing : Printing) (answer : RunAnswer) (old new : W)
      (before after : N) : Type 0 where
    pub between : N
    pub files : FolderContents
    pub are : AreFilesOf HasTold session.is_lenient true (option_map (λ d. d.now) session.dir) before between files
    pub explanation : Explanation
    pub explained :
        IsSessionExplained IsOpened HasLeft HasTaken files session.until printing
        session.scripts.items explanation old new
    pub told : Took HasTold between (explanation_lines session.scripts.items explanation) after
    pub answered : answer ≡ run_answer (are_none are.lost) explanation

  -- The sink took the circles of the session that are asked for, and the answer is theirs.
  pub record IsCircleAnswered {W N : Type 0} (HasTaken : W → List ℕ → Type 0)
      (HasTold : N → List ℕ → Type 0)
      (session : Session) (question : CircleQuestion) (answer : CircleAnswer) (old new : W)
      (before after : N) : Type 0 where
    pub files : FolderContents
    pub are : AreFilesOf HasTold session.is_lenient false (option_map (λ d. d.now) session.dir) before after files
    pub printed :
        IsCirclePrinted IsOpened HasLeft HasTaken files session.until session.scripts.items question
        answer old new

  -- The sink took the answer to a question about the session.
  pub record IsWhyAnswered {W N : Type 0} (HasTaken : W → List ℕ → Type 0)
      (HasTold : N → List ℕ → Type 0)
      (session : Session) (question : WhyQuestion) (old new : W) (before after : N) : Type 0 where
    pub files : FolderContents
    pub are : AreFilesOf HasTold session.is_lenient false (option_map (λ d. d.now) session.dir) before after files
    pub printed :
        IsWhyPrinted IsOpened HasLeft HasTaken files session.until session.scripts.items question
        old new

  -- A line goes back in time in the session, which has no end.
  pub record IsTimeless {N : Type 0} (HasTold : N → List ℕ → Type 0) (session : Session)
      (before after : N) (fault : ProgramFault) : Type 0 where
    pub files : FolderContents
    pub are : AreFilesOf HasTold session.is_lenient false (option_map (λ d. d.now) session.dir) before after files
    pub why : IsOfTime IsOpened HasLeft files session.until session.scripts.items fault

  -- The session was run, and what is recorded of it was written to a path, or withheld; where it is
  -- asked for, what the run did not do was told behind the files that are left out. The answer is
  -- that of all this.
  pub record IsRunRecorded {W N : Type 0} (IsBegun : List ℕ → W → Type 0)
      (HasTaken : W → List ℕ → Type 0)
      (IsStored : List ℕ → W → Type 0) (HasTold : N → List ℕ → Type 0) (session : Session)
      (recording : Recording) (explains : Bool) (answer : RunAnswer)
      (before after : N) : Type 0 where
    pub between : N
    pub files : FolderContents
    pub are : AreFilesOf HasTold session.is_lenient explains (option_map (λ d. d.now) session.dir) before between files
    pub explanation : Explanation
    pub recorded : IsSessionRecorded IsOpened HasLeft IsBegun HasTaken IsStored files session.until
        session.scripts.items recording explanation
    pub told : Took HasTold between (told_where explains session.scripts.items explanation) after
    pub answered : answer ≡ run_answer (are_none are.lost) explanation

  -- The session was not recorded, for one of these reasons, once its folder was read.
  pub record IsRecordingStopped {W N : Type 0} (AreOne : List ℕ → List ℕ → Type 0)
      (IsBegun : List ℕ → W → Type 0)
      (writer_failed takes_some : W → Bool) (CannotBegin CannotStore : List ℕ → Type 0)
      (HasTold : N → List ℕ → Type 0)
      (session : Session) (recording : Recording) (explains : Bool) (before after : N)
      (fault : ProgramFault) : Type 0 where
    pub files : FolderContents
    pub are : AreFilesOf HasTold session.is_lenient explains (option_map (λ d. d.now) session.dir) before after files
    pub why :
        IsOfSharing AreOne recording.path.now session.scripts.items
        (option_map (λ d. d.now) session.dir)
        (take MOST_FILES are.names) fault
        ⊎ (IsOfScripts IsOpened HasLeft CannotOpen failed session.scripts.items fault
        ⊎ (IsOfRefusal IsOpened HasLeft files session.until session.scripts.items recording fault
        ⊎ IsOfWriting IsBegun writer_failed takes_some CannotBegin CannotStore recording.path.now
        fault))
