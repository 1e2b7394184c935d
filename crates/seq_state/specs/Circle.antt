-- Definition: A circle of clients, and what its owner sees.
use Rattle.std.specs.Prelude.{◌≡◌, ℕ, ◌==◌, Bool, false, not, if◌then◌else◌, IsTrue, IsFalse, List, [], ◌∷◌, Option, Some, None, slice_get}
use Rattle.std.specs.List.{filter, flat_map}
use Rattle.node_table.specs.declared.number.Addr.{Addr}
use Rattle.node_table.specs.declared.number.Node.{Node}
use Rattle.node_table.specs.declared.number.Node.TheVariants.{Port, Filter}
use Rattle.seq_state.specs.declared.input.Command.{Command}
use Rattle.seq_state.specs.declared.input.Command.TheVariants.{Connect, Disconnect}
use Rattle.seq_state.specs.declared.input.Input.{Input}
use Rattle.node_table.specs.declared.number.QueueAddr.{QueueAddr}
use Rattle.seq_state.specs.declared.log.Delivery.{Delivery}
use Rattle.seq_state.specs.declared.log.LogEntry.{LogEntry}
use Rattle.seq_state.specs.declared.log.LogEntry.TheVariants.{Delivered, Replied}
use Rattle.seq_state.specs.declared.log.Reply.{Reply}
use Rattle.smf_grammar.specs.Played.{PlayedFile}
use Rattle.seq_state.specs.State.{State, start}
use Rattle.seq_state.specs.Table.{queue_named}
use Rattle.seq_state.specs.Step.{step, plain, IsTimed, IsRefusal}

-- the circle's inputs
abbrev pub only : (ℕ → Bool) → List Input → List Input
only member inputs = filter (λ i. member i.actor) inputs

-- a port of the owner, or a filter of a member
abbrev pub inner_node : ℕ → (ℕ → Bool) → ℕ → Node → Bool
inner_node owner member client (Port n) = client == owner
inner_node owner member client (Filter n) = member client

abbrev pub is_inner : ℕ → (ℕ → Bool) → Addr → Bool
is_inner owner member a = inner_node owner member a.client a.node

-- the target of a Connect or Disconnect lies outside
abbrev pub aims_outside : ℕ → (ℕ → Bool) → Command → Bool
aims_outside owner member (Connect source target) = not (is_inner owner member target)
aims_outside owner member (Disconnect source target) = not (is_inner owner member target)
aims_outside owner member _ = false

-- At a target inside, a member joins or parts members' nodes alone, and a stranger is refused.
abbrev pub JoinsWithin : ℕ → (ℕ → Bool) → ℕ → Addr → Addr → Reply → Type 0
JoinsWithin owner member actor source target reply =
    IsTrue (is_inner owner member target)
    → (IsTrue (member actor) → IsTrue (member source.client))
    × (IsFalse (member actor) → IsRefusal reply)

abbrev pub IsClosedAt : ℕ → (ℕ → Bool) → ℕ → Command → Reply → Type 0
IsClosedAt owner member actor (Connect source target) reply =
    JoinsWithin owner member actor source target reply
IsClosedAt owner member actor (Disconnect source target) reply =
    JoinsWithin owner member actor source target reply
IsClosedAt owner member actor _ reply = Unit {0}

-- a member's input names members' queues alone
abbrev pub NamesWithin : (ℕ → Bool) → ℕ → Option QueueAddr → Type 0
NamesWithin member actor None = Unit {0}
NamesWithin member actor (Some q) = IsTrue (member actor) → IsTrue (member q.client)

-- each of the inputs keeps the circle closed, from this state on
abbrev pub IsClosedFrom : List PlayedFile → ℕ → (ℕ → Bool) → State → List Input → Type 0
IsClosedFrom files owner member s [] = Unit {0}
IsClosedFrom files owner member s (i ∷ inputs) =
    IsClosedAt owner member i.actor i.command (step files s i).reply
    × NamesWithin member i.actor (queue_named i.command)
    × IsClosedFrom files owner member (step files s i).state inputs

abbrev pub IsClosed : List PlayedFile → ℕ → (ℕ → Bool) → List Input → Type 0
IsClosed files owner member inputs =
    IsTrue (member owner) × IsClosedFrom files owner member start inputs

-- ---- what the owner sees

-- A delivery at a port of the owner, a reply to it, or a reply whose outcome lies outside.
pub data Sight : Type 0 where
  Came : Delivery → Sight
  Told : ℕ → Reply → Sight
  Outside : ℕ → Sight

abbrev pub sight_of_reply : ℕ → (ℕ → Bool) → ℕ → Reply → Option Input → Sight
sight_of_reply owner member moment reply None = Told moment reply
sight_of_reply owner member moment reply (Some i) =
    if aims_outside owner member i.command then Outside moment else Told moment reply

abbrev pub is_to : ℕ → Delivery → Bool
is_to owner d = d.target.client == owner

abbrev pub sight : ℕ → (ℕ → Bool) → List Input → LogEntry → List Sight
sight owner member inputs (Delivered d) = if is_to owner d then Came d ∷ [] else []
sight owner member inputs (Replied place moment client reply) =
    if client == owner then sight_of_reply owner member moment reply (slice_get inputs place) ∷ []
    else []

abbrev pub view : ℕ → (ℕ → Bool) → List Input → List LogEntry → List Sight
view owner member inputs log = flat_map (sight owner member inputs) log

-- ---- the law

-- what the owner of a closed circle sees of a run is what it sees of the plain run of the circle's
-- inputs alone
abbrev pub IsolationLaw : Type 0
IsolationLaw =
    (files : List PlayedFile) (owner : ℕ) (member : ℕ → Bool) (inputs : List Input) (end : ℕ) →
    IsTimed inputs end → IsClosed files owner member inputs →
    view owner member inputs (plain files inputs end)
    ≡ view owner member (only member inputs) (plain files (only member inputs) end)
