-- Definition: Logs that are written to the files of a folder while their session runs.
use Rattle.std.specs.Prelude.{◌≡◌, ◌⊎◌, ℕ, Bool, true, false, List, [], ◌∷◌, ◌++◌, Some, codes}
use Rattle.std.specs.Fmt.{decimal}
use Rattle.byte_io.specs.Moved.{Took}
use Rattle.seq_session.specs.declared.fault.SessionFault.{SessionFault}
use Rattle.seq_session.specs.declared.fault.SessionFault.TheVariants.{Write}
use Rattle.seq_session.specs.declared.source.Script.{Script}
use Rattle.seq_session.specs.declared.source.ScriptSource.{ScriptSource}
use Rattle.seq_session.specs.Devices.{clients, reader_of, log_of_fault, Wrote, AreAlone, IsReading, ReadersTell, LogsTell}
use Rattle.seq_session.specs.Sessions.{FolderContents, all_logs, listing_after, script_clients}
use Rattle.seq_session.specs.Streams.{logs_after, StopsBetween, IsCutShort}
use Rattle.program_tasks.specs.Apart.{AreScriptsApart, IsOneScript}
use Rattle.folder_files.specs.Paths.{path_in}
use Rattle.program_tasks.specs.Opened.{AreOfFiles}
use Rattle.program_tasks.specs.Sessions.{owners, IsToldAs}
use Rattle.program_tasks.specs.declared.log_folder.LogFolder.{LogFolder}
use Rattle.program_tasks.specs.declared.program_fault.ProgramFault.{ProgramFault}
use Rattle.program_tasks.specs.declared.program_fault.ProgramFault.TheVariants.{OutOfMemory, CannotWriteLog, LogIsRead}
use Rattle.program_tasks.specs.declared.words.ScriptWord.{ScriptWord}

-- the name of a client's log
abbrev pub log_name : ℕ → List ℕ
log_name client = decimal client ++ codes ".log"

-- its path in a folder, as `logs/128.log`
abbrev pub log_path : List ℕ → ℕ → List ℕ
log_path folder client = path_in folder (log_name client)

-- ---- no log is a script

-- the logs of the clients of these words lead to none of these scripts
abbrev pub AreLogsApart : (List ℕ → List ℕ → Type 0) → List ℕ → List ScriptWord → List ScriptWord
    → Type 0
AreLogsApart AreApart folder [] scripts = Unit {0}
AreLogsApart AreApart folder (w ∷ words) scripts =
    AreScriptsApart AreApart (log_path folder w.client) scripts
    × AreLogsApart AreApart folder words scripts

-- a log is one of these scripts, or out of memory
abbrev pub IsOfReadLog : (List ℕ → List ℕ → Type 0) → List ℕ → List ScriptWord → ProgramFault
    → Type 0
IsOfReadLog AreOne folder scripts (LogIsRead told client) =
    (told.now ≡ folder) × IsOneScript AreOne (log_path folder client) scripts
IsOfReadLog AreOne folder scripts OutOfMemory = Unit {0}
IsOfReadLog AreOne folder scripts _ = ⊥

-- ---- logs that are begun

-- each is the log of the client that a word names, begun where it stands
abbrev pub AreLogsPlaced : {W : Type 0} → (List ℕ → Bool → W → Type 0) → LogFolder
    → List ScriptWord → List W → Type 0
AreLogsPlaced IsPlaced logs (w ∷ words) (log ∷ begun) =
    IsPlaced (log_path logs.path.now w.client) logs.append log
    × AreLogsPlaced IsPlaced logs words begun
AreLogsPlaced IsPlaced logs [] [] = Unit {0}
AreLogsPlaced IsPlaced logs _ _ = ⊥

-- a log could not be begun, or out of memory
abbrev pub IsOfPlacing : (List ℕ → Type 0) → List ℕ → ProgramFault → Type 0
IsOfPlacing CannotPlace folder (CannotWriteLog told client) =
    (told.now ≡ folder) × CannotPlace (log_path folder client)
IsOfPlacing CannotPlace folder OutOfMemory = Unit {0}
IsOfPlacing CannotPlace folder _ = ⊥

-- ---- how faults are told

-- a log that cannot be written is reported by its folder and its client, and all else as of any
-- session
abbrev pub IsLogTold : List ℕ → List ScriptWord → SessionFault → ProgramFault → Type 0
IsLogTold folder words (Write client) (CannotWriteLog told named) =
    (told.now ≡ folder) × (named ≡ client)
IsLogTold folder words (Write client) _ = ⊥
IsLogTold folder words fault told = IsToldAs words fault told

-- A session stopped at a fault, which is told so: a reader is blamed that has failed, or a log that
-- is stuck, and the logs have what they have then.
pub record StreamStopsAs {R V : Type 0} (HasLeft : R → List ℕ → Type 0) (failed : R → Bool)
    (HasWritten : V → List ℕ → Type 0) (stuck takes_some : V → Bool)
    (folder : FolderContents) (end : ℕ) (path : List ℕ) (words : List ScriptWord)
    (sources rests : List (ScriptSource R)) (begun stopped : List V)
    (told : ProgramFault) : Type 0 where
  pub fault : SessionFault
  pub told_as : IsLogTold path words fault told
  pub readers : ReadersTell failed (reader_of fault) rests
  pub logs : LogsTell stuck takes_some (log_of_fault fault) (clients sources) stopped
  pub cut : (IsReading fault × (stopped ≡ begun))
      ⊎ IsCutShort HasLeft HasWritten folder end sources rests begun stopped fault

-- ---- what is written

-- the listing, where it is asked for
abbrev pub listing_if : Bool → List ℕ → List ℕ
listing_if true listing = listing
listing_if false listing = []

-- The scripts were read from the files that the words name. The log of each client was begun, and
-- has taken what it says in the session of just these scripts, within each closed circle round the
-- client what it says in the session of the circle alone.
pub record AreLogsWritten {R V : Type 0} (IsOpened : List ℕ → R → Type 0)
    (HasLeft : R → List ℕ → Type 0) (IsPlaced : List ℕ → Bool → V → Type 0)
    (HasWritten : V → List ℕ → Type 0)
    (folder : FolderContents) (end : ℕ) (logs : LogFolder) (words : List ScriptWord)
    (listing : List ℕ) : Type 0 where
  pub scripts : List Script
  pub read : AreOfFiles IsOpened HasLeft words scripts
  pub begun : List V
  pub whole : List V
  pub placed : AreLogsPlaced IsPlaced logs words begun
  pub wrote : Wrote HasWritten begun whole (all_logs folder end scripts)
  pub alone : AreAlone folder end HasWritten scripts scripts begun whole
  pub listed : listing ≡ listing_after folder end scripts

-- And the sink took the listing, where it is asked for.
pub record IsSessionStreamed {R V W : Type 0} (IsOpened : List ℕ → R → Type 0)
    (HasLeft : R → List ℕ → Type 0) (IsPlaced : List ℕ → Bool → V → Type 0)
    (HasWritten : V → List ℕ → Type 0) (HasTaken : W → List ℕ → Type 0)
    (folder : FolderContents) (end : ℕ) (logs : LogFolder) (listed : Bool)
    (words : List ScriptWord) (old new : W) : Type 0 where
  pub listing : List ℕ
  pub written : AreLogsWritten IsOpened HasLeft IsPlaced HasWritten folder end logs words listing
  pub took : Took HasTaken old (listing_if listed listing) new

-- The scripts were read from the files that the words name, and the log of each client was begun;
-- that of this client is stuck, and when it was, all logs had what they say after some turns of the
-- session, those before it after more of them.
pub record IsLogStuck {R V : Type 0} (IsOpened : List ℕ → R → Type 0)
    (HasLeft : R → List ℕ → Type 0) (IsPlaced : List ℕ → Bool → V → Type 0)
    (HasWritten : V → List ℕ → Type 0) (failed takes_some : V → Bool)
    (folder : FolderContents) (end : ℕ) (logs : LogFolder) (words : List ScriptWord)
    (client : ℕ) : Type 0 where
  pub scripts : List Script
  pub read : AreOfFiles IsOpened HasLeft words scripts
  pub begun : List V
  pub stopped : List V
  pub placed : AreLogsPlaced IsPlaced logs words begun
  pub cut : StopsBetween HasWritten (logs_after folder end scripts) client (script_clients scripts)
      begun stopped
  pub told : LogsTell failed takes_some (Some client) (owners words) stopped

module _ {R V : Type 0} (IsOpened : List ℕ → R → Type 0) (HasLeft : R → List ℕ → Type 0)
    (IsPlaced : List ℕ → Bool → V → Type 0) (HasWritten : V → List ℕ → Type 0)
    (failed takes_some : V → Bool) (CannotPlace : List ℕ → Type 0) where
  -- the log of this client could not be begun, or is stuck
  abbrev pub IsUnwrittenLog : FolderContents → ℕ → LogFolder → List ScriptWord → ℕ → Type 0
  IsUnwrittenLog folder end logs words client =
      CannotPlace (log_path logs.path.now client)
      ⊎ IsLogStuck IsOpened HasLeft IsPlaced HasWritten failed takes_some folder end logs words
      client

  -- a log could not be written
  abbrev pub IsOfLogs : FolderContents → ℕ → LogFolder → List ScriptWord → ProgramFault → Type 0
  IsOfLogs folder end logs words (CannotWriteLog told client) =
      (told.now ≡ logs.path.now) × IsUnwrittenLog folder end logs words client
  IsOfLogs folder end logs words _ = ⊥
