-- Definition: Logs that are written while their session runs.
use Rattle.std.specs.Prelude.{◌≡◌, ◌≤◌, ◌+◌, ◌⊎◌, ℕ, zero, suc, List, [], ◌∷◌, ◌++◌, map}
use Rattle.smf_grammar.specs.Played.{PlayedFile}
use Rattle.byte_io.specs.Moved.{Took}
use Rattle.seq_state.specs.declared.input.Input.{Input}
use Rattle.seq_state.specs.declared.log.LogEntry.{LogEntry}
use Rattle.seq_state.specs.declared.log.LogEntry.TheVariants.{Delivered, Replied}
use Rattle.seq_state.specs.State.{State, start}
use Rattle.seq_state.specs.Step.{step, settle}
use Rattle.script_text.specs.declared.reading.ScriptRead.{ScriptRead}
use Rattle.seq_session.specs.declared.fault.SessionFault.{SessionFault}
use Rattle.seq_session.specs.declared.fault.SessionFault.TheVariants.{OutOfMemory, Read, Write, WriteListing}
use Rattle.seq_session.specs.declared.source.Script.{Script}
use Rattle.seq_session.specs.declared.source.ScriptSource.{ScriptSource}
use Rattle.seq_session.specs.AllLogs.{logs_of}
use Rattle.seq_session.specs.Merging.{inputs_of, lines_of}
use Rattle.seq_session.specs.Sessions.{FolderContents, script_reading, session, all_logs, listing_after, script_clients}
use Rattle.seq_session.specs.Devices.{AreRead, Wrote, AreAlone}

-- ---- turns

-- What happens in the first n turns of a run. Each input is one, and the last is what is due after
-- all of them, by the end.
abbrev pub turns : List PlayedFile → State → ℕ → List Input → ℕ → ℕ → List LogEntry
turns files s place inputs end zero = []
turns files s place [] end (suc n) = map Delivered (settle s end).delivered
turns files s place (i ∷ inputs) end (suc n) =
    map Delivered (step files s i).delivered
    ++ Replied place i.moment i.actor (step files s i).reply
    ∷ turns files (step files s i).state (place + 1) inputs end n

-- The logs of these readings after so many turns of the session. Its first turn tells the skipped
-- lines, and those of the run follow.
abbrev pub texts_after : List ScriptRead → List ℕ → List PlayedFile → List Input → ℕ → ℕ
    → List (List ℕ)
texts_after reads lines files inputs end zero = map (λ r. []) reads
texts_after reads lines files inputs end (suc n) =
    logs_of reads lines (turns files start 0 inputs end n)

-- the logs of a session after so many turns
abbrev pub logs_after : FolderContents → ℕ → List Script → ℕ → List (List ℕ)
logs_after folder end scripts n =
    let merged = session folder end scripts in
    texts_after (map (script_reading folder end) scripts) (lines_of merged) folder.files
    (inputs_of merged) end n

-- the reading with nothing in it
abbrev pub emptied : ScriptRead → ScriptRead
emptied r = record r { inputs = []; skips = [] }

-- ---- what was written

-- A log has all that it says after fewer turns, and a first part of what it says then.
pub record TookBetween {W : Type 0} (HasTaken : W → List ℕ → Type 0) (old : W)
    (fewer more : List ℕ) (new : W) : Type 0 where
  pub gained : List ℕ
  pub missing : List ℕ
  pub took : Took HasTaken old (fewer ++ gained) new
  pub split : more ≡ fewer ++ (gained ++ missing)

-- The logs before that of this client have what they say after more turns, its own has a part of
-- that, and the later ones have what they say after fewer.
abbrev pub WroteBetween : {W : Type 0} → (W → List ℕ → Type 0) → ℕ → List ℕ → List W → List W
    → List (List ℕ) → List (List ℕ) → Type 0
WroteBetween HasTaken client (c ∷ clients) (o ∷ olds) (n ∷ news) (f ∷ fewer) (m ∷ more) =
    ((c ≡ client) × (TookBetween HasTaken o f m n × Wrote HasTaken olds news fewer))
    ⊎ (Took HasTaken o m n × WroteBetween HasTaken client clients olds news fewer more)
WroteBetween HasTaken client _ _ _ _ _ = ⊥

-- All logs have what they say after so many turns: the same for each.
pub record StopsAfter {W : Type 0} (HasTaken : W → List ℕ → Type 0) (after : ℕ → List (List ℕ))
    (olds news : List W) : Type 0 where
  pub turn : ℕ
  pub logs : Wrote HasTaken olds news (after turn)

-- The log of this client could not be written, between two turns.
pub record StopsBetween {W : Type 0} (HasTaken : W → List ℕ → Type 0) (after : ℕ → List (List ℕ))
    (client : ℕ) (clients : List ℕ) (olds news : List W) : Type 0 where
  pub fewer : ℕ
  pub more : ℕ
  pub order : fewer ≤ more
  pub logs : WroteBetween HasTaken client clients olds news (after fewer) (after more)

-- what has been written where a fault stops it
abbrev pub IsStoppedAt : {W : Type 0} → (W → List ℕ → Type 0) → (ℕ → List (List ℕ)) → List ℕ
    → List W → List W → SessionFault → Type 0
IsStoppedAt HasTaken after clients olds news OutOfMemory = StopsAfter HasTaken after olds news
IsStoppedAt HasTaken after clients olds news (Write client) =
    StopsBetween HasTaken after client clients olds news
IsStoppedAt HasTaken after clients olds news (Read client) = ⊥
IsStoppedAt HasTaken after clients olds news WriteListing = ⊥

-- ---- a whole session

-- Scripts were read from these readers, and each log has gained its text of the session of just
-- these scripts, of which this is the listing; and each log is alone within its circles.
pub record IsStreamed {R W : Type 0} (HasLeft : R → List ℕ → Type 0)
    (HasTaken : W → List ℕ → Type 0)
    (folder : FolderContents) (end : ℕ) (sources rests : List (ScriptSource R)) (olds news : List W)
    (listing : List ℕ) : Type 0 where
  pub scripts : List Script
  pub read : AreRead HasLeft sources rests scripts
  pub logs : Wrote HasTaken olds news (all_logs folder end scripts)
  pub listed : listing ≡ listing_after folder end scripts
  pub isolated : AreAlone folder end HasTaken scripts scripts olds news

-- Scripts were read from these readers, and when the fault came, the logs had gained what they say
-- after some turns of the session of just these scripts.
pub record IsCutShort {R W : Type 0} (HasLeft : R → List ℕ → Type 0)
    (HasTaken : W → List ℕ → Type 0)
    (folder : FolderContents) (end : ℕ) (sources rests : List (ScriptSource R)) (olds news : List W)
    (fault : SessionFault) : Type 0 where
  pub scripts : List Script
  pub read : AreRead HasLeft sources rests scripts
  pub logs :
      IsStoppedAt HasTaken (logs_after folder end scripts) (script_clients scripts) olds news fault
