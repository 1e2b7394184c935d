-- Definition: Why a session stops.
use Rattle.std.specs.Prelude.{◌≡◌, ◌⊎◌, ℕ, Bool, true, false, List, Option, Some, codes, Contains, IsSome}
use Rattle.port_files.specs.Tracks.{ports_file}
use Rattle.program_tasks.specs.Recording.{recording_ppq, recording_tempo, recording_of}
use Rattle.seq_session.specs.declared.source.Script.{Script}
use Rattle.seq_session.specs.Sessions.{FolderContents, happens}
use Rattle.seq_state.specs.declared.log.LogEntry.{LogEntry}
use Rattle.program_tasks.specs.declared.words.ScriptWord.{ScriptWord}
use Rattle.program_tasks.specs.Words.{scripts_seen}
use Rattle.smf_files.specs.Refusals.{write_refusal}
use Rattle.smf_grammar.specs.Written.{file_refusal}
use Rattle.program_tasks.specs.declared.program_fault.ProgramFault.{ProgramFault}
use Rattle.program_tasks.specs.declared.program_fault.ProgramFault.TheVariants.{OutOfMemory, CannotRead, CannotWrite, CannotRecord, OutIsRead}
use Rattle.program_tasks.specs.declared.recording.Recorded.{Recorded}
use Rattle.program_tasks.specs.declared.recording.Recorded.TheVariants.{Stream, Port, Ports}
use Rattle.program_tasks.specs.declared.recording.Recording.{Recording}
use Rattle.program_tasks.specs.Apart.{IsShared}
use Rattle.folder_files.specs.Contents.{IsBroken, IsUnreadable}
use Rattle.program_tasks.specs.Opened.{AreOfFiles}

-- out of memory
abbrev pub IsOfMemory : ProgramFault → Type 0
IsOfMemory fault = fault ≡ OutOfMemory

-- ---- the folder and the scripts

-- the path is that of a script
abbrev pub IsScript : List ScriptWord → List ℕ → Type 0
IsScript words path = (client : ℕ) × Contains (scripts_seen words) (client, path)

-- a script could not be opened, or out of memory
abbrev pub IsOfOpening : (List ℕ → Type 0) → List ScriptWord → ProgramFault → Type 0
IsOfOpening CannotOpen words (CannotRead path) = IsScript words path.now × CannotOpen path.now
IsOfOpening CannotOpen words OutOfMemory = Unit {0}
IsOfOpening CannotOpen words _ = ⊥

-- the folder could not be listed, or out of memory
abbrev pub IsOfListing : (List ℕ → Type 0) → Option (List ℕ) → ProgramFault → Type 0
IsOfListing CannotList folder (CannotRead path) = (folder ≡ Some path.now) × CannotList path.now
IsOfListing CannotList folder OutOfMemory = Unit {0}
IsOfListing CannotList folder _ = ⊥

module _ {R : Type 0} (IsOpened : List ℕ → R → Type 0) (HasLeft : R → List ℕ → Type 0)
    (CannotOpen : List ℕ → Type 0) (failed : R → Bool) where
  -- nothing can be read at this path of a script
  abbrev pub IsUnreadScript : List ScriptWord → List ℕ → Type 0
  IsUnreadScript words path =
      IsScript words path × IsUnreadable IsOpened HasLeft CannotOpen failed path

  -- a script could not be read, or out of memory
  abbrev pub IsOfScripts : List ScriptWord → ProgramFault → Type 0
  IsOfScripts words (CannotRead path) = IsUnreadScript words path.now
  IsOfScripts words OutOfMemory = Unit {0}
  IsOfScripts words _ = ⊥

  -- a read of the script at this path failed, or out of memory
  abbrev pub IsOfReading : List ℕ → ProgramFault → Type 0
  IsOfReading path (CannotRead told) =
      (told.now ≡ path) × IsBroken IsOpened HasLeft CannotOpen failed path
  IsOfReading path OutOfMemory = Unit {0}
  IsOfReading path _ = ⊥

-- ---- what is printed

-- the sink has failed, or is one that may take no byte
abbrev pub IsStuck : {W : Type 0} → (W → Bool) → (W → Bool) → W → W → Type 0
IsStuck failed takes_some old new = (failed new ≡ true) ⊎ (takes_some old ≡ false)

-- standard output could not be written, for this reason
abbrev pub IsOfOutput : Type 0 → ProgramFault → Type 0
IsOfOutput reason (CannotWrite path) = (path.now ≡ codes "-") × reason
IsOfOutput reason _ = ⊥

-- ---- what is recorded

-- what is recorded makes no file: of one stream none is made
abbrev pub IsNoFile : Recorded → List LogEntry → Type 0
IsNoFile (Stream port) entries = ⊥
IsNoFile (Port port) entries =
    IsSome (write_refusal recording_ppq recording_tempo (recording_of port entries))
IsNoFile (Ports ports clock) entries =
    IsSome (file_refusal (ports_file clock.now ports.now entries))

-- what is recorded makes no file, or out of memory
abbrev pub IsOfEvents : Recorded → List LogEntry → ProgramFault → Type 0
IsOfEvents what entries CannotRecord = IsNoFile what entries
IsOfEvents what entries OutOfMemory = Unit {0}
IsOfEvents what entries _ = ⊥

-- The scripts were read from the files that the words name, and what is recorded of the run of just
-- these makes no file.
pub record IsUnrecordable {R : Type 0} (IsOpened : List ℕ → R → Type 0)
    (HasLeft : R → List ℕ → Type 0)
    (folder : FolderContents) (end : ℕ) (words : List ScriptWord)
    (recording : Recording) : Type 0 where
  pub scripts : List Script
  pub read : AreOfFiles IsOpened HasLeft words scripts
  pub refused : IsNoFile recording.what (happens folder end scripts)

-- A file was begun for the path, and is stuck.
pub record IsStuckDraft {W : Type 0} (IsBegun : List ℕ → W → Type 0) (failed takes_some : W → Bool)
    (path : List ℕ) : Type 0 where
  pub begun : W
  pub stuck : W
  pub new : IsBegun path begun
  pub is : IsStuck failed takes_some begun stuck

module _ {W : Type 0} (IsBegun : List ℕ → W → Type 0) (failed takes_some : W → Bool)
    (CannotBegin CannotStore : List ℕ → Type 0) where
  -- no file could be begun for this path, or written, or put there
  abbrev pub IsUnwritable : List ℕ → Type 0
  IsUnwritable path =
      CannotBegin path ⊎ (CannotStore path ⊎ IsStuckDraft IsBegun failed takes_some path)

  -- the file could not be written, or out of memory
  abbrev pub IsOfWriting : List ℕ → ProgramFault → Type 0
  IsOfWriting path (CannotWrite told) = (told.now ≡ path) × IsUnwritable path
  IsOfWriting path OutOfMemory = Unit {0}
  IsOfWriting path _ = ⊥

-- the file is one that the session reads
abbrev pub IsOfSharing : (List ℕ → List ℕ → Type 0) → List ℕ → List ScriptWord →
    Option (List ℕ) → List (List ℕ) → ProgramFault → Type 0
IsOfSharing AreOne path words folder names (OutIsRead told) =
    (told.now ≡ path) × IsShared AreOne path words folder names
IsOfSharing AreOne path words folder names _ = ⊥

-- what is recorded makes no file
abbrev pub IsOfRefusal : {R : Type 0} → (List ℕ → R → Type 0) → (R → List ℕ → Type 0) →
    FolderContents → ℕ → List ScriptWord → Recording → ProgramFault → Type 0
IsOfRefusal IsOpened HasLeft folder end words recording CannotRecord =
    IsUnrecordable IsOpened HasLeft folder end words recording
IsOfRefusal IsOpened HasLeft folder end words recording _ = ⊥
