-- Representation: Words for kinds of commands.
use Rattle.std.specs.Prelude.{ℕ, ◌==◌, Bool, true, false, if◌then◌else◌}
use Rattle.node_table.specs.declared.number.QueueAddr.{QueueAddr}
use Rattle.seq_state.specs.declared.input.Command.{Command}
use Rattle.seq_state.specs.declared.input.Command.TheVariants.{Close, DeletePort, SetFilter, DeleteFilter, Disconnect, DeleteQueue, QueueStatus, Share, DropOutput, Listen, Unlisten, PoolStatus}
use Rattle.seq_state.specs.declared.refusal.Refusal.{Refusal}
use Rattle.seq_state.specs.declared.refusal.Refusal.TheVariants.{NotYours, NoQueue}

-- why a queue cannot be used: it is another's, or not there
abbrev pub unusable : ℕ → QueueAddr → Refusal
unusable actor q = if q.client == actor then NoQueue else NotYours

-- a command that takes away, changes in place or asks, and so takes no memory
abbrev pub takes_none : Command → Bool
takes_none Close = true
takes_none (DeletePort port) = true
takes_none (SetFilter filter rule) = true
takes_none (DeleteFilter filter) = true
takes_none (Disconnect source target) = true
takes_none (DeleteQueue queue) = true
takes_none (QueueStatus queue) = true
takes_none (Share queue) = true
takes_none DropOutput = true
takes_none Listen = true
takes_none Unlisten = true
takes_none PoolStatus = true
takes_none _ = false
