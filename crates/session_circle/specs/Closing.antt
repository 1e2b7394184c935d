-- Definition: Whether a circle is closed in the run of these very inputs, strangers among them.
use Rattle.std.specs.Prelude.{◌≡◌, ◌<◌, ℕ, Bool, false, not, ◌&&◌, IsTrue, List, ◌++◌, codes, Option, Some, None, slice_get, take}
use Rattle.seq_state.specs.declared.input.Command.{Command}
use Rattle.seq_state.specs.declared.input.Command.TheVariants.{Connect, Disconnect}
use Rattle.seq_state.specs.declared.input.Input.{Input}
use Rattle.seq_state.specs.declared.log.Reply.{Reply}
use Rattle.smf_grammar.specs.Played.{PlayedFile}
use Rattle.seq_state.specs.State.{start}
use Rattle.seq_state.specs.Step.{step, state_after, plain, IsRefusal}
use Rattle.seq_state.specs.Circle.{is_inner, only, view}
use Rattle.seq_session.specs.declared.source.Script.{Script}
use Rattle.seq_session.specs.Rising.{AreRising}
use Rattle.seq_session.specs.Sessions.{FolderContents, script_clients, script_for, only_scripts}
use Rattle.session_circle.specs.Laws.{LogsAgree}
use Rattle.session_circle.specs.Printed.{asking_text, text_at}

-- the target of a Connect or Disconnect lies inside
abbrev pub aims_inside : ℕ → (ℕ → Bool) → Command → Bool
aims_inside owner member (Connect source target) = is_inner owner member target
aims_inside owner member (Disconnect source target) = is_inner owner member target
aims_inside owner member _ = false

-- a stranger joins or parts at a target inside
abbrev pub reaches_in : ℕ → (ℕ → Bool) → Input → Bool
reaches_in owner member i = not (member i.actor) && aims_inside owner member i.command

-- and is not refused
abbrev pub IsReached : ℕ → (ℕ → Bool) → Input → Reply → Type 0
IsReached owner member i reply = IsTrue (reaches_in owner member i) × (IsRefusal reply → ⊥)

-- the reply to an input that stands at this place of the run
abbrev pub reply_at : List PlayedFile → List Input → ℕ → Input → Reply
reply_at files inputs place i = (step files (state_after files start (take place inputs)) i).reply

-- By the input at this place of the run a stranger reaches into the circle.
pub record IsReachedAt (files : List PlayedFile) (owner : ℕ) (member : ℕ → Bool)
    (inputs : List Input) (place : ℕ) : Type 0 where
  pub input : Input
  pub there : slice_get inputs place ≡ Some input
  pub reached : IsReached owner member input (reply_at files inputs place input)

-- the first place at which a stranger reaches in, if there is one
abbrev pub IsFirstReach : List PlayedFile → ℕ → (ℕ → Bool) → List Input → Option ℕ → Type 0
IsFirstReach files owner member inputs None =
    (place : ℕ) → IsReachedAt files owner member inputs place → ⊥
IsFirstReach files owner member inputs (Some place) =
    IsReachedAt files owner member inputs place
    × ((before : ℕ) → before < place → IsReachedAt files owner member inputs before → ⊥)

-- what the owner sees of the run is what it sees of the run of the members' inputs alone
abbrev pub SeesMembersAlone : List PlayedFile → ℕ → (ℕ → Bool) → List Input → ℕ → Type 0
SeesMembersAlone files owner member inputs end =
    view owner member inputs (plain files inputs end)
    ≡ view owner member (only member inputs) (plain files (only member inputs) end)

-- the client's log is that of the session of the members' scripts alone, as far as the law says
abbrev pub IsLogOfMembers : FolderContents → ℕ → List Script → ℕ → (ℕ → Bool) → Type 0
IsLogOfMembers folder end scripts client member =
    (owner : Script) → AreRising (script_clients scripts) →
    script_for client scripts ≡ Some owner →
    LogsAgree folder end member owner scripts (only_scripts member scripts)

-- ---- as text

-- `closed in this session`, or `reached by line 3 of 130 connects 130:p0 to 129:p0`
abbrev pub reach_text : List ℕ → List Input → Option ℕ → List ℕ
reach_text lines inputs None = codes "closed in this session\n"
reach_text lines inputs (Some place) =
    codes "reached by" ++ text_at asking_text lines inputs place ++ codes "\n"
