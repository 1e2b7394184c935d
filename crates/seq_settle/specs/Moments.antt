-- Representation: The moments that queues give.
use Rattle.std.specs.Prelude.{◌≡◌, ℕ, Option}
use Rattle.std.specs.Ordering.{nat_cmp}
use Rattle.std.specs.FinMap
use Rattle.std.specs.FinMap.{FinMap}
use Rattle.tempo_clock.specs.declared.due.Due.{Due}
use Rattle.node_table.specs.declared.number.QueueAddr.{QueueAddr}
use Rattle.seq_state.specs.State.{Client, Queue, queues_of}
use Rattle.seq_state.specs.Step.{moment_in}

-- the queue at an address, if one is there
abbrev pub queue_in : FinMap nat_cmp Client → QueueAddr → Option Queue
queue_in clients q = FinMap.get (queues_of (FinMap.get clients q.client)) q.queue

-- when something accepted then is due by a queue, if the queue comes to it as it runs now
abbrev pub moment_at : FinMap nat_cmp Client → QueueAddr → ℕ → Due → Option ℕ
moment_at clients q accepted due = moment_in (queue_in clients q) accepted due

-- a queue gives the same moments here and there
abbrev pub SameMoments : FinMap nat_cmp Client → FinMap nat_cmp Client → QueueAddr → Type 0
SameMoments was clients q =
    (accepted : ℕ) (due : Due) → moment_at was q accepted due ≡ moment_at clients q accepted due
