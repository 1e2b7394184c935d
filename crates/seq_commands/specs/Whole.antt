-- Representation: How a sequencer is seen as a plain state, and what holds of it between inputs.
use Rattle.std.specs.Prelude.{◌≡◌, ℕ, Bool, true, List, Option, is_some}
use Rattle.std.specs.List.{list_all}
use Rattle.std.specs.Ordering.{nat_cmp}
use Rattle.std.specs.FinMap.{FinMap}
use Rattle.agenda_heap.specs.declared.due_key.DueKey.{DueKey}
use Rattle.seq_state.specs.declared.input.Command.{Command}
use Rattle.seq_state.specs.declared.input.Input.{Input}
use Rattle.seq_state.specs.declared.log.Delivery.{Delivery}
use Rattle.seq_state.specs.declared.log.Reply.{Reply}
use Rattle.seq_state.specs.declared.refusal.Refusal.{Refusal}
use Rattle.seq_state.specs.State.{Client, OwnedPlayback, State}
use Rattle.seq_state.specs.Table.{visible}
use Rattle.seq_state.specs.Step as steps
use Rattle.seq_state.specs.Step.{Stepped, refusal_of, step}
use Rattle.seq_state.specs.Laws.{has_ticks, Ready, Bounded}
use Rattle.seq_settle.specs.Moments.{queue_in}
use Rattle.seq_settle.specs.Cells.{seen_state, AreCells}
use Rattle.seq_settle.specs.Order.{AreTimed}
use Rattle.seq_commands.specs.declared.sequencer.Sequencer.{Sequencer}
use Rattle.seq_commands.specs.declared.sequencer.Turn.{Turn}

-- when the first event of each cell is due
abbrev pub Keys : Type 0
Keys = FinMap nat_cmp DueKey

-- the open clients
abbrev pub clients_of : Sequencer → FinMap nat_cmp Client
clients_of s = s.patchbay.clients.clients

-- the plain state that it is seen as
abbrev pub state_of : Sequencer → State
state_of s =
    seen_state (clients_of s) s.patchbay.clients.pools s.patchbay.graph s.cells.cells s.steps

-- ---- what holds between inputs

-- its client may use the queue that a playback is on
abbrev pub is_usable : FinMap nat_cmp Client → OwnedPlayback → Bool
is_usable clients p = is_some (visible p.client p.queue.client (queue_in clients p.queue))

-- A plain state: its queues were told of no later moment, its pools keep their sizes, and each
-- playback is on a queue that its client may use.
pub record IsSound (s : State) (now : ℕ) : Type 0 where
  pub ready : Ready s now
  pub bounded : Bounded s
  pub usable : list_all (is_usable s.clients) s.pending ≡ true

-- A sequencer with the agenda that goes with it.
pub record IsWhole (s : Sequencer) (agenda : Keys) (now : ℕ) : Type 0 where
  pub files : list_all has_ticks s.files ≡ true
  pub cells : AreCells s.cells.cells s.steps
  pub timed : AreTimed (clients_of s) s.cells.cells s.order agenda
  pub sound : IsSound (state_of s) now

-- ---- what a command does

-- the refusal of a command, if one stands
abbrev pub refusal_in : Sequencer → Turn → Command → Option Refusal
refusal_in s t command = refusal_of s.files (state_of s) t.moment t.actor command

-- the plain step of a command
abbrev pub step_in : Sequencer → Turn → Command → Stepped
step_in s t command = steps.command_step s.files (state_of s) t.moment t.actor command

-- who says an input, and when
abbrev pub turn_of : Input → Turn
turn_of i = record { moment = i.moment; actor = i.actor }

-- the plain step of an input's command, where what was due by then is sent
abbrev pub settled_step : Sequencer → Input → Stepped
settled_step s i = step_in s (turn_of i) i.command

-- the plain step of an input
abbrev pub input_step : Sequencer → Input → Stepped
input_step s i = step s.files (state_of s) i

-- A sequencer with its agenda, a reply and what was sent are those of a step.
pub record IsStepTaken (old new : Sequencer) (agenda : Keys) (step : Stepped) (reply : Reply)
    (sent : List Delivery) : Type 0 where
  pub state : state_of new ≡ step.state
  pub reply_is : reply ≡ step.reply
  pub sent_is : sent ≡ step.delivered
  pub cells : AreCells new.cells.cells new.steps
  pub timed : AreTimed (clients_of new) new.cells.cells new.order agenda
  pub files : new.files ≡ old.files
  pub steps : new.steps ≡ old.steps

-- The same with the agenda that went with it before.
abbrev pub IsStepTakenUnkeyed : Sequencer → Sequencer → Stepped → Reply → List Delivery → Type 0
IsStepTakenUnkeyed old new step reply sent =
    (agenda : Keys) (now : ℕ) → IsWhole old agenda now → IsStepTaken old new agenda step reply sent
