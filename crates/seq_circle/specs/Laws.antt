-- Law: What holds of shut circles, for all lists of inputs.
use Rattle.std.specs.Prelude.{◌≡◌, ℕ, ◌==◌, Bool, not, ◌&&◌, ◌||◌, IsTrue, IsFalse, List, [], ◌∷◌, ◌++◌, map}
use Rattle.std.specs.List.{list_all}
use Rattle.node_table.specs.Capabilities.{read_bit}
use Rattle.node_table.specs.declared.number.Addr.{Addr}
use Rattle.seq_state.specs.declared.input.Command.{Command}
use Rattle.seq_state.specs.declared.input.Command.TheVariants.{Open, CreatePort, CreateFilter, Connect}
use Rattle.seq_state.specs.declared.input.Input.{Input}
use Rattle.smf_grammar.specs.Played.{PlayedFile}
use Rattle.seq_state.specs.State.{start}
use Rattle.seq_state.specs.Step.{plain, IsTimed, IsRefusal, step, state_after, port_addr, filter_addr}
use Rattle.seq_state.specs.Circle.{only, view, IsClosed}
use Rattle.seq_state.specs.Heard.{port_at, port_bytes}
use Rattle.seq_circle.specs.Shut.{stays_within, is_whole_circle, is_shut, opens}
use Rattle.seq_circle.specs.Mending.{mended}

-- What the members say keeps the circle closed, whatever strangers say, and wherever they say it.
abbrev pub ShutLaw : Type 0
ShutLaw =
    (files : List PlayedFile) (owner : ℕ) (member : ℕ → Bool) (mine inputs : List Input) →
    IsTrue (is_shut owner member mine) → only member inputs ≡ only member mine →
    IsClosed files owner member inputs

-- Whatever strangers say in the one list and in the other, the owner of a shut circle sees the
-- same, and the same bytes come to each of its ports.
abbrev pub StrangersLaw : Type 0
StrangersLaw =
    (files : List PlayedFile) (owner : ℕ) (member : ℕ → Bool) (inputs others : List Input)
    (end : ℕ) →
    IsTimed inputs end → IsTimed others end → IsTrue (is_shut owner member inputs) →
    only member others ≡ only member inputs →
    (view owner member others (plain files others end)
    ≡ view owner member inputs (plain files inputs end))
    × ((port : ℕ) → port_bytes (port_at owner port) (plain files others end)
    ≡ port_bytes (port_at owner port) (plain files inputs end))

-- two circles that are shut round their owner meet in one
abbrev pub ShutMeetLaw : Type 0
ShutMeetLaw =
    (owner : ℕ) (member other : ℕ → Bool) (inputs : List Input) →
    IsTrue (is_shut owner member inputs) → IsTrue (is_shut owner other inputs) →
    IsTrue (is_shut owner (λ c. member c && other c) inputs)

-- ---- what is open

-- the node that a command makes
abbrev pub node_made : ℕ → Command → Addr
node_made actor (CreatePort port name caps) = port_addr actor port
node_made actor (CreateFilter filter caps rule) = filter_addr actor filter
node_made actor _ = port_addr actor 0

abbrev pub input_of_client : ℕ → ℕ → Command → Input
input_of_client moment client command =
    record { moment = moment; actor = client; command = command }

-- three lines by which a client joins a port of its own to a node
abbrev pub joining_inputs : ℕ → ℕ → Addr → List Input
joining_inputs moment client target =
    input_of_client moment client (Open (120 ∷ []) 1 1)
    ∷ input_of_client moment client (CreatePort 0 (120 ∷ []) (record { 0 = read_bit }))
    ∷ input_of_client moment client (Connect (port_addr client 0) target) ∷ []

-- Where a member makes a node inside that anyone may join, and is not refused, any stranger who has
-- said nothing yet can join it: the circle is closed in no list where it does.
abbrev pub OpenLaw : Type 0
OpenLaw =
    (files : List PlayedFile) (owner : ℕ) (member : ℕ → Bool) (before after : List Input)
    (i : Input) (stranger : ℕ) →
    IsTrue (list_all (λ j. not (stranger == j.actor)) before) →
    IsTrue (member i.actor) → IsFalse (member stranger) →
    IsTrue (opens owner i.actor i.command) →
    (IsRefusal (step files (state_after files start before) i).reply → ⊥) →
    IsClosed files owner member (before
    ++ (i ∷ (joining_inputs i.moment stranger (node_made i.actor i.command) ++ after))) → ⊥

-- ---- a line more

-- a stranger says it, or it asks for nobody who is not there, and makes nothing inside that anyone
-- may join
abbrev pub keeps_shut : ℕ → (ℕ → Bool) → Input → Bool
keeps_shut owner member i =
    not (member i.actor) || (stays_within owner member i && not (opens owner i.actor i.command))

-- a circle that is shut stays so with a line more, wherever it stands, just where that line keeps
-- it shut; and what strangers say is not looked at
pub record LineMoreLaw : Type 0 where
  pub line : (owner : ℕ) (member : ℕ → Bool) (before after : List Input) (i : Input) →
      is_shut owner member (before ++ i ∷ after)
      ≡ (is_shut owner member (before ++ after) && keeps_shut owner member i)
  pub strangers : (owner : ℕ) (member : ℕ → Bool) (inputs : List Input) →
      is_shut owner member inputs ≡ is_shut owner member (only member inputs)

-- a circle in which all are whom its members ask for is shut, once each making of a member that
-- anyone could join is mended: so what its members ask for is all that can keep it open
abbrev pub MendLaw : Type 0
MendLaw =
    (owner : ℕ) (member : ℕ → Bool) (inputs : List Input) →
    is_shut owner member (map (mended owner member) inputs) ≡ is_whole_circle owner member inputs
