-- Representation: What a Schedule or a Play adds.
use Rattle.std.specs.Prelude.{ℕ, List, [], ◌∷◌, ◌++◌, Some}
use Rattle.std.specs.List.{filter}
use Rattle.node_table.specs.declared.number.QueueAddr.{QueueAddr}
use Rattle.seq_state.specs.declared.log.Reply.TheVariants.{Done}
use Rattle.seq_state.specs.Effect.{playback}
use Rattle.seq_state.specs.State.{DueMessage, OwnedPlayback}
use Rattle.seq_state.specs.Step.{Stepped, is_left, pending_of}
use Rattle.seq_commands.specs.Whole.{state_of}
use Rattle.seq_commands.specs.declared.sequencer.Sequencer.{Sequencer}
use Rattle.seq_commands.specs.declared.sequencer.Turn.{Turn}

-- the events of the actor, as one playback
abbrev pub playing : Turn → QueueAddr → ℕ → List DueMessage → OwnedPlayback
playing t queue port events = pending_of t.actor (Some queue) (playback port t.moment events)

-- the step that adds these events of the actor, if there is one, from a port by a queue
abbrev pub adding_step : Sequencer → Turn → QueueAddr → ℕ → List DueMessage → Stepped
adding_step s t queue port events =
    let new : List OwnedPlayback = filter is_left (playing t queue port events ∷ []) in
    record {
      state = record (state_of s) { pending = (state_of s).pending ++ new };
      delivered = [];
      reply = Done;
    }
