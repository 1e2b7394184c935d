-- Law: What no script of a stranger changes.
use Rattle.std.specs.Prelude.{◌≡◌, ◌≤◌, ℕ, Bool, IsTrue, List, [], map, Some, slice_get}
use Rattle.seq_circle.specs.Shut.{is_shut}
use Rattle.seq_session.specs.declared.source.Script.{Script}
use Rattle.seq_session.specs.Rising.{AreRising}
use Rattle.seq_session.specs.Merging.{inputs_of}
use Rattle.seq_session.specs.Sessions.{FolderContents, script_reading, session, log_of, script_clients, script_for, only_scripts}
use Rattle.seq_session.specs.Blank.{blank, outside_lines}
use Rattle.session_circle.specs.declared.every_end.TheConstants.{NO_END}
use Rattle.session_circle.specs.EveryEnd.{NoneGoesBack, inputs_until}

-- The owner's logs in two sessions are the same but for the outcomes at targets outside; and where
-- the owner joins and parts nothing outside, each byte of them is.
pub record LogsAgree (folder : FolderContents) (end : ℕ) (member : ℕ → Bool) (owner : Script)
    (scripts others : List Script) : Type 0 where
  pub but_for_outcomes :
      blank member (script_reading folder end owner) (log_of folder end others owner)
      ≡ blank member (script_reading folder end owner) (log_of folder end scripts owner)
  pub each_byte : outside_lines member (script_reading folder end owner) ≡ []
      → log_of folder end others owner ≡ log_of folder end scripts owner

-- From bytes to bytes: where the circle is shut round the owner of a script, its log is the same
-- beside all other scripts of strangers.
abbrev pub ScriptsLaw : Type 0
ScriptsLaw =
    (folder : FolderContents) (end : ℕ) (owner : Script) (member : ℕ → Bool)
    (scripts others : List Script) →
    AreRising (script_clients scripts) → AreRising (script_clients others) →
    script_for owner.client scripts ≡ Some owner →
    IsTrue (is_shut owner.client member (inputs_of (session folder end scripts))) →
    only_scripts member others ≡ only_scripts member scripts →
    LogsAgree folder end member owner scripts others

-- beside whatever scripts of strangers, the client's log is the same, as far as the law says
abbrev pub NoScriptMatters : FolderContents → ℕ → List Script → ℕ → (ℕ → Bool) → Type 0
NoScriptMatters folder end scripts client member =
    (owner : Script) (others : List Script) →
    AreRising (script_clients scripts) → AreRising (script_clients others) →
    script_for client scripts ≡ Some owner →
    only_scripts member others ≡ only_scripts member scripts →
    LogsAgree folder end member owner scripts others

-- beside whatever scripts of strangers, each byte of the client's log is the same
abbrev pub NoByteChanges : FolderContents → ℕ → List Script → ℕ → (ℕ → Bool) → Type 0
NoByteChanges folder end scripts client member =
    (owner : Script) (others : List Script) →
    AreRising (script_clients scripts) → AreRising (script_clients others) →
    script_for client scripts ≡ Some owner →
    only_scripts member others ≡ only_scripts member scripts →
    log_of folder end others owner ≡ log_of folder end scripts owner

-- the inputs at these places stand on the lines of the client's script whose outcomes the law
-- leaves out
abbrev pub AreOutside : FolderContents → ℕ → List Script → ℕ → (ℕ → Bool) → List ℕ → List ℕ
    → Type 0
AreOutside folder end scripts client member lines places =
    (owner : Script) → AreRising (script_clients scripts) →
    script_for client scripts ≡ Some owner →
    map (slice_get lines) places
    ≡ map Some (outside_lines member (script_reading folder end owner))

-- ---- every end of the run

-- Where no line goes back in time, a session until an end is what the session without one says
-- until then. So what is shut without an end is shut for each, and no script of a stranger matters.
pub record EveryEndLaw : Type 0 where
  pub inputs : (folder : FolderContents) (scripts : List Script) → NoneGoesBack folder scripts →
      (end : ℕ) → end ≤ NO_END →
      session folder end scripts ≡ inputs_until end (session folder NO_END scripts)
  pub shut : (folder : FolderContents) (scripts : List Script) (owner : ℕ) (member : ℕ → Bool) →
      NoneGoesBack folder scripts →
      IsTrue (is_shut owner member (inputs_of (session folder NO_END scripts))) →
      (end : ℕ) → end ≤ NO_END →
      IsTrue (is_shut owner member (inputs_of (session folder end scripts)))
      × NoScriptMatters folder end scripts owner member
