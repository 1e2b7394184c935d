-- Definition: What a session does to the readers of its scripts, to its logs and to its listing.
use Rattle.std.specs.Prelude.{◌≡◌, ◌+◌, ◌==◌, ◌⊎◌, ℕ, Bool, true, false, List, [], ◌∷◌, ◌++◌, map, Option, Some, None, Result, Ok, Err, IsTrue}
use Rattle.std.specs.List.{AllByRecursion, list_any}
use Rattle.byte_io.specs.Moved.{GaveAll, Took, TookPart}
use Rattle.script_text.specs.declared.script.TheConstants.{MOST_SCRIPT}
use Rattle.seq_session.specs.declared.fault.SessionFault.{SessionFault}
use Rattle.seq_session.specs.declared.fault.SessionFault.TheVariants.{OutOfMemory, Read, Write, WriteListing}
use Rattle.seq_session.specs.declared.source.Script.{Script}
use Rattle.seq_session.specs.declared.session_run.SessionRun.{SessionRun}
use Rattle.seq_session.specs.declared.source.ScriptSource.{ScriptSource}
use Rattle.seq_session.specs.Merging.{inputs_of, lines_of}
use Rattle.seq_session.specs.Sessions.{FolderContents, script_reading, session, happens, log_of, all_logs, listing_after, lost_in, script_clients, only_scripts}
use Rattle.seq_session.specs.Blank.{blank}
use Rattle.seq_state.specs.Circle.{IsClosed}

-- ---- scripts as they are read

-- the numbers of the clients
abbrev pub clients : {R : Type 0} → List (ScriptSource R) → List ℕ
clients sources = map (λ s. s.client) sources

-- The script is the client's, and its text is what the reads of the client's reader gave: all that
-- it had, or one byte more than a script may have.
pub record IsRead {R : Type 0} (HasLeft : R → List ℕ → Type 0) (old new : ScriptSource R)
    (s : Script) : Type 0 where
  pub client : s.client ≡ old.client
  pub text : GaveAll HasLeft (MOST_SCRIPT + 1) old.reader s.text new.reader

-- so of each script
abbrev pub AreRead : {R : Type 0} → (R → List ℕ → Type 0) → List (ScriptSource R)
    → List (ScriptSource R) → List Script → Type 0
AreRead HasLeft (o ∷ olds) (n ∷ news) (s ∷ scripts) =
    IsRead HasLeft o n s × AreRead HasLeft olds news scripts
AreRead HasLeft [] [] [] = Unit {0}
AreRead HasLeft _ _ _ = ⊥

-- scripts were read behind those that were there
pub record ReadsOn {R : Type 0} (HasLeft : R → List ℕ → Type 0) (olds news : List (ScriptSource R))
    (before after : List Script) : Type 0 where
  pub scripts : List Script
  pub added : after ≡ before ++ scripts
  pub read : AreRead HasLeft olds news scripts

-- no reader has failed
abbrev pub AreSound : {R : Type 0} → (R → Bool) → List (ScriptSource R) → Type 0
AreSound failed sources = AllByRecursion (λ s. failed s.reader ≡ false) sources

-- so of logs
abbrev pub AreOpen : {W : Type 0} → (W → Bool) → List W → Type 0
AreOpen failed logs = AllByRecursion (λ w. failed w ≡ false) logs

-- ---- what the logs gain

-- each log has taken its text
abbrev pub Wrote : {W : Type 0} → (W → List ℕ → Type 0) → List W → List W → List (List ℕ) → Type 0
Wrote HasTaken (o ∷ olds) (n ∷ news) (t ∷ texts) =
    Took HasTaken o t n × Wrote HasTaken olds news texts
Wrote HasTaken [] [] [] = Unit {0}
Wrote HasTaken _ _ _ = ⊥

-- The logs before that of this client have taken their texts, its own the first part of its text
-- and not all, and the later ones are as they were.
abbrev pub WroteUpTo : {W : Type 0} →
    (W → List ℕ → Type 0) → ℕ → List ℕ → List W → List W → List (List ℕ) → Type 0
WroteUpTo HasTaken client (c ∷ clients) (o ∷ olds) (n ∷ news) (t ∷ texts) =
    ((c ≡ client) × (TookPart HasTaken o t n × (news ≡ olds)))
    ⊎ (Took HasTaken o t n × WroteUpTo HasTaken client clients olds news texts)
WroteUpTo HasTaken client _ _ _ _ = ⊥

-- A text tells, within a circle that is closed round its client, what it tells in the session of
-- the circle's scripts alone, but for the outcomes at targets outside.
abbrev pub IsTextAlone : FolderContents → ℕ → List Script → Script → List ℕ → Type 0
IsTextAlone folder end scripts owner text =
    (member : ℕ → Bool) →
    IsClosed folder.files owner.client member (inputs_of (session folder end scripts)) →
    blank member (script_reading folder end owner) text
    ≡ blank member (script_reading folder end owner)
    (log_of folder end (only_scripts member scripts) owner)

-- So of what a log has gained.
pub record IsAlone {W : Type 0} (folder : FolderContents) (end : ℕ) (HasTaken : W → List ℕ → Type 0)
    (scripts : List Script)
    (owner : Script) (old new : W) : Type 0 where
  pub gained : List ℕ
  pub took : Took HasTaken old gained new
  pub alone : IsTextAlone folder end scripts owner gained

-- so of each log; `owners` are the clients' scripts
abbrev pub AreAlone : {W : Type 0} →
    FolderContents → ℕ → (W → List ℕ → Type 0) → List Script → List Script → List W → List W
    → Type 0
AreAlone folder end HasTaken scripts (s ∷ owners) (o ∷ olds) (n ∷ news) =
    IsAlone folder end HasTaken scripts s o n
    × AreAlone folder end HasTaken scripts owners olds news
AreAlone folder end HasTaken scripts [] [] [] = Unit {0}
AreAlone folder end HasTaken scripts _ _ _ = ⊥

-- ---- the whole session

-- Each log has taken its text, and the listing its own at the end; and each log is alone
-- within its circles.
pub record AreLogged {W : Type 0} (HasTaken : W → List ℕ → Type 0) (folder : FolderContents)
    (end : ℕ) (scripts : List Script)
    (olds news : List W) (before after : W) : Type 0 where
  pub logs : Wrote HasTaken olds news (all_logs folder end scripts)
  pub listing : Took HasTaken before (listing_after folder end scripts) after
  pub isolated : AreAlone folder end HasTaken scripts scripts olds news

-- The log of this client could not be written: the earlier ones are whole, it has the first part of
-- its text, and nothing is written any more.
pub record StopsAtLog {W : Type 0} (HasTaken : W → List ℕ → Type 0) (folder : FolderContents)
    (end : ℕ) (scripts : List Script)
    (client : ℕ) (olds news : List W) (before after : W) : Type 0 where
  pub part : WroteUpTo HasTaken client (script_clients scripts) olds news
      (all_logs folder end scripts)
  pub no_listing : after ≡ before

-- The listing could not be written: all logs are whole, and it has the first part of its text.
pub record StopsAtListing {W : Type 0} (HasTaken : W → List ℕ → Type 0) (folder : FolderContents)
    (end : ℕ) (scripts : List Script)
    (olds news : List W) (before after : W) : Type 0 where
  pub whole : Wrote HasTaken olds news (all_logs folder end scripts)
  pub listing_part : TookPart HasTaken before (listing_after folder end scripts) after

-- what a session of these scripts has written where this is its answer
abbrev pub IsWritten : {T W : Type 0} → (W → List ℕ → Type 0) → FolderContents → ℕ → List Script →
    List W → List W → W → W → Result T SessionFault → Type 0
IsWritten HasTaken folder end scripts olds news before after (Ok _) =
    AreLogged HasTaken folder end scripts olds news before after
IsWritten HasTaken folder end scripts olds news before after (Err (Write client)) =
    StopsAtLog HasTaken folder end scripts client olds news before after
IsWritten HasTaken folder end scripts olds news before after (Err WriteListing) =
    StopsAtListing HasTaken folder end scripts olds news before after
IsWritten HasTaken folder end scripts olds news before after (Err _) = Unit {0}

-- Scripts were read from these readers, and what was written is that of the session of just these
-- scripts.
pub record IsSession {T R W : Type 0} (HasLeft : R → List ℕ → Type 0)
    (HasTaken : W → List ℕ → Type 0)
    (folder : FolderContents) (end : ℕ) (sources rests : List (ScriptSource R)) (olds news : List W)
    (before after : W)
    (result : Result T SessionFault) : Type 0 where
  pub scripts : List Script
  pub read : AreRead HasLeft sources rests scripts
  pub written : IsWritten HasTaken folder end scripts olds news before after result

-- The run is that of these scripts.
pub record IsRunOf (folder : FolderContents) (end : ℕ) (scripts : List Script)
    (run : SessionRun) : Type 0 where
  pub scripts_are : run.scripts ≡ scripts
  pub reads : run.reads ≡ map (script_reading folder end) scripts
  pub inputs : run.merged.inputs ≡ inputs_of (session folder end scripts)
  pub lines : run.merged.lines ≡ lines_of (session folder end scripts)
  pub plain : run.log.entries ≡ happens folder end scripts
  pub listing : run.log.listing ≡ listing_after folder end scripts
  pub losses : run.log.losses ≡ lost_in folder end scripts

-- Scripts were read from these readers, and the run is that of just these scripts.
pub record IsRun {R : Type 0} (HasLeft : R → List ℕ → Type 0) (folder : FolderContents) (end : ℕ)
    (sources rests : List (ScriptSource R)) (run : SessionRun) : Type 0 where
  pub scripts : List Script
  pub read : AreRead HasLeft sources rests scripts
  pub is : IsRunOf folder end scripts run

-- ---- faults

-- the client whose reader a fault blames, and the one whose log
abbrev pub reader_of : SessionFault → Option ℕ
reader_of (Read client) = Some client
reader_of _ = None

abbrev pub log_of_fault : SessionFault → Option ℕ
log_of_fault (Write client) = Some client
log_of_fault _ = None

-- those whom the answer blames
abbrev pub reader_blamed : {T : Type 0} → Result T SessionFault → Option ℕ
reader_blamed (Ok _) = None
reader_blamed (Err e) = reader_of e

abbrev pub log_blamed : {T : Type 0} → Result T SessionFault → Option ℕ
log_blamed (Ok _) = None
log_blamed (Err e) = log_of_fault e

abbrev pub is_blamed : Option ℕ → ℕ → Bool
is_blamed None client = false
is_blamed (Some blamed) client = blamed == client

-- the answer blames the sink of the listing
abbrev pub is_of_listing : SessionFault → Bool
is_of_listing WriteListing = true
is_of_listing _ = false

abbrev pub blames_listing : {T : Type 0} → Result T SessionFault → Bool
blames_listing (Ok _) = false
blames_listing (Err e) = is_of_listing e

-- a fault of the time before anything is written
abbrev pub IsReading : SessionFault → Type 0
IsReading OutOfMemory = Unit {0}
IsReading (Read client) = Unit {0}
IsReading _ = ⊥

-- a fault of the time after
abbrev pub is_of_writing : SessionFault → Bool
is_of_writing (Write client) = true
is_of_writing WriteListing = true
is_of_writing _ = false

-- the answer comes after all scripts were read, and their texts made
abbrev pub has_read : {T : Type 0} → Result T SessionFault → Bool
has_read (Ok _) = true
has_read (Err e) = is_of_writing e

-- the client is one of these
abbrev pub IsAmong : ℕ → List ℕ → Type 0
IsAmong client clients = IsTrue (list_any (λ c. c == client) clients)

-- a reader has failed where it is blamed, and nowhere else
abbrev pub ReadersTell : {R : Type 0} → (R → Bool) → Option ℕ → List (ScriptSource R) → Type 0
ReadersTell failed blamed sources =
    AllByRecursion (λ s. failed s.reader ≡ is_blamed blamed s.client) sources

-- A sink that has failed is blamed; one that is blamed has failed, or may take no byte.
pub record IsTold (failed eager blamed : Bool) : Type 0 where
  pub told : failed ≡ true → blamed ≡ true
  pub only : blamed ≡ true → (failed ≡ true) ⊎ (eager ≡ false)

-- so of each log
abbrev pub LogsTell : {W : Type 0} → (W → Bool) → (W → Bool) → Option ℕ → List ℕ → List W → Type 0
LogsTell failed eager blamed (c ∷ clients) (log ∷ logs) =
    IsTold (failed log) (eager log) (is_blamed blamed c) × LogsTell failed eager blamed clients logs
LogsTell failed eager blamed [] [] = Unit {0}
LogsTell failed eager blamed _ _ = ⊥
