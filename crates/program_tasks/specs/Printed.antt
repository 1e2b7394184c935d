-- Definition: What is printed of a session.
use Rattle.std.specs.Prelude.{◌≡◌, ℕ, Bool, true, false, List, ◌++◌, map}
use Rattle.std.specs.List.{flat_map}
use Rattle.byte_io.specs.Moved.{Took}
use Rattle.seq_session.specs.declared.fault.SessionFault.{SessionFault}
use Rattle.seq_session.specs.declared.source.Script.{Script}
use Rattle.seq_session.specs.declared.source.ScriptSource.{ScriptSource}
use Rattle.seq_session.specs.Devices.{reader_of, AreRead, ReadersTell}
use Rattle.seq_session.specs.Sessions.{FolderContents, log_of, all_logs, listing_after}
use Rattle.program_tasks.specs.declared.words.ScriptWord.{ScriptWord}
use Rattle.log_forms.specs.Forms.{log_in, head_of}
use Rattle.log_forms.specs.declared.form.LogForm.{LogForm}
use Rattle.log_forms.specs.declared.form.LogForm.TheVariants.{Text}
use Rattle.program_tasks.specs.declared.form_word.Printing.{Printing}
use Rattle.program_tasks.specs.declared.program_fault.ProgramFault.{ProgramFault}
use Rattle.program_tasks.specs.declared.running.HeldLogs.{HeldLogs}
use Rattle.program_tasks.specs.LogsPrinted.{headed_log, listing_there, listing_where}
use Rattle.program_tasks.specs.Opened.{AreOfFiles}
use Rattle.program_tasks.specs.Sessions.{IsToldAs}

-- each client's number and its log
abbrev pub headed_logs : FolderContents → ℕ → List Script → List ℕ
headed_logs folder end scripts =
    flat_map (λ s. headed_log s.client (log_of folder end scripts s)) scripts

-- the logs in a form, one after another
abbrev pub formed_logs : LogForm → FolderContents → ℕ → List Script → List ℕ
formed_logs form folder end scripts =
    flat_map (λ s. log_in form s.client (log_of folder end scripts s)) scripts

-- what is printed of a session as text: the logs and then, where it is asked for, the listing
abbrev pub headed_text : Bool → FolderContents → ℕ → List Script → List ℕ
headed_text false folder end scripts = headed_logs folder end scripts
headed_text true folder end scripts =
    headed_logs folder end scripts ++ listing_after folder end scripts

-- what is printed of a session in a form
abbrev pub text_in : LogForm → Bool → FolderContents → ℕ → List Script → List ℕ
text_in Text listed folder end scripts = headed_text listed folder end scripts
text_in form listed folder end scripts =
    head_of form
    ++ (formed_logs form folder end scripts
    ++ listing_there form (listing_where listed (listing_after folder end scripts)))

-- what is printed of a session
abbrev pub session_text : Printing → FolderContents → ℕ → List Script → List ℕ
session_text printing folder end scripts =
    text_in printing.form printing.listed folder end scripts

-- The scripts were read from the files that the words name, and the sink took what the session of
-- just these says.
pub record IsSessionPrinted {R W : Type 0} (IsOpened : List ℕ → R → Type 0)
    (HasLeft : R → List ℕ → Type 0)
    (HasTaken : W → List ℕ → Type 0) (folder : FolderContents) (end : ℕ)
    (printing : Printing) (words : List ScriptWord)
    (old new : W) : Type 0 where
  pub scripts : List Script
  pub read : AreOfFiles IsOpened HasLeft words scripts
  pub took : Took HasTaken old (session_text printing folder end scripts) new

-- ---- what is held until it is printed

-- Scripts were read from these readers, and what is held are the logs and the listing of the
-- session of just these scripts.
pub record AreLogsHeld {R : Type 0} (HasLeft : R → List ℕ → Type 0) (folder : FolderContents)
    (end : ℕ) (sources rests : List (ScriptSource R)) (held : HeldLogs) : Type 0 where
  pub scripts : List Script
  pub read : AreRead HasLeft sources rests scripts
  pub logs : map (λ l. l.taken) held.logs.items ≡ all_logs folder end scripts
  pub listing : held.listing ≡ listing_after folder end scripts

-- A session stopped at a fault, which is told so, and a reader that is blamed has failed.
pub record HoldingStopsAs {R : Type 0} (failed : R → Bool) (words : List ScriptWord)
    (rests : List (ScriptSource R)) (told : ProgramFault) : Type 0 where
  pub fault : SessionFault
  pub told_as : IsToldAs words fault told
  pub readers : ReadersTell failed (reader_of fault) rests

-- The scripts were read from the files that the words name, and what is held are the logs and the
-- listing of the session of just these.
pub record IsSessionHeld {R : Type 0} (IsOpened : List ℕ → R → Type 0)
    (HasLeft : R → List ℕ → Type 0)
    (folder : FolderContents) (end : ℕ) (words : List ScriptWord) (held : HeldLogs)
    : Type 0 where
  pub scripts : List Script
  pub read : AreOfFiles IsOpened HasLeft words scripts
  pub logs : map (λ l. l.taken) held.logs.items ≡ all_logs folder end scripts
  pub listing : held.listing ≡ listing_after folder end scripts
