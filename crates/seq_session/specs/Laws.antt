-- Law: What holds of all sessions.
use Rattle.std.specs.Prelude.{◌≡◌, ◌<◌, ◌≤◌, ℕ, Bool, List, [], map, Some}
use Rattle.std.specs.List.{filter}
use Rattle.seq_state.specs.Circle.{only, IsClosed}
use Rattle.seq_state.specs.State.{State, start}
use Rattle.seq_state.specs.Step.{all_at, state_after, IsTimed}
use Rattle.seq_session.specs.declared.source.Script.{Script}
use Rattle.seq_session.specs.Rising.{AreRising}
use Rattle.seq_session.specs.Merging.{inputs_of, AreSorted}
use Rattle.seq_session.specs.Sessions.{FolderContents, script_reading, session, log_of, all_logs, script_clients, script_for, only_scripts}
use Rattle.seq_session.specs.Blank.{blank}

-- to merge the scripts of a circle is to keep of the merged list what its members say: the inputs,
-- and the lines with them
pub record MergeLaw : Type 0 where
  pub inputs : (folder : FolderContents) (end : ℕ) (member : ℕ → Bool) (scripts : List Script) →
      inputs_of (session folder end (only_scripts member scripts))
      ≡ only member (inputs_of (session folder end scripts))
  pub lines : (folder : FolderContents) (end : ℕ) (member : ℕ → Bool) (scripts : List Script) →
      session folder end (only_scripts member scripts)
      ≡ filter (λ x. member x.input.actor) (session folder end scripts)

-- the readings of scripts are sorted
abbrev pub SortedLaw : Type 0
SortedLaw =
    (folder : FolderContents) (end : ℕ) (scripts : List Script)
    → AreSorted (map (script_reading folder end) scripts)

-- the inputs of a session are well-timed
abbrev pub TimedLaw : Type 0
TimedLaw =
    (folder : FolderContents) (end : ℕ) (scripts : List Script) →
    IsTimed (inputs_of (session folder end scripts)) end

-- Isolation, from bytes to bytes: where the owner has a script and the circle is closed round it,
-- its log is, but for the outcomes at targets outside, what it is in the session of the circle's
-- scripts alone.
abbrev pub LogLaw : Type 0
LogLaw =
    (folder : FolderContents) (end : ℕ) (owner : Script) (member : ℕ → Bool)
    (scripts : List Script) →
    AreRising (script_clients scripts) → script_for owner.client scripts ≡ Some owner →
    IsClosed folder.files owner.client member (inputs_of (session folder end scripts)) →
    blank member (script_reading folder end owner) (log_of folder end scripts owner)
    ≡ blank member (script_reading folder end owner)
    (log_of folder end (only_scripts member scripts) owner)

-- nothing that is pending is due after the one moment, up to the other
abbrev pub IsIdleBetween : State → ℕ → ℕ → Type 0
IsIdleBetween s end later =
    (m : ℕ) → end < m → m ≤ later → all_at s.clients s.pending m ≡ []

-- A later end says no more: where no line of a script stands between both ends, and nothing is due
-- there after the last line, all logs are the same.
abbrev pub LaterEndLaw : Type 0
LaterEndLaw =
    (folder : FolderContents) (end later : ℕ) (scripts : List Script) → end ≤ later →
    map (script_reading folder end) scripts ≡ map (script_reading folder later) scripts →
    IsIdleBetween (state_after folder.files start (inputs_of (session folder end scripts)))
    end later →
    all_logs folder end scripts ≡ all_logs folder later scripts
