-- Representation: What the agenda has, and what waits beside it in the order of its queue.
use Rattle.std.specs.Prelude.{◌≡◌, ℕ, ◌+◌, ◌-◌, ◌*◌, ◌<◌, ◌≤◌, ◌⊎◌, Option, Some, None}
use Rattle.std.specs.Ordering.{nat_cmp}
use Rattle.std.specs.FinMap
use Rattle.std.specs.FinMap.{FinMap}
use Rattle.tempo_clock.specs.declared.due.Due.{Due}
use Rattle.tempo_clock.specs.declared.due.Due.TheVariants.{Tick, Nanos}
use Rattle.node_table.specs.Numbers.{first_client, most_queues}
use Rattle.node_table.specs.declared.number.QueueAddr.{QueueAddr}
use Rattle.seq_state.specs.State.{Client}
use Rattle.agenda_heap.specs.declared.due_key.DueKey.{DueKey}
use Rattle.seq_settle.specs.declared.lists.Listed.{Listed}
use Rattle.seq_settle.specs.declared.order.QueueOrder.{QueueOrder}
use Rattle.seq_settle.specs.declared.waiting.QueueKey.{QueueKey}
use Rattle.seq_settle.specs.Cells.{PlaybackCell, RankedPlayback, key_of}
use Rattle.seq_settle.specs.Lists.{IsIn, list_at}
use Rattle.seq_settle.specs.Sends.{next_due}
use Rattle.seq_settle.specs.Waiting.{cell_at}

-- ---- rows and keys

-- the row of a queue among those of all clients
abbrev pub queue_row : QueueAddr → ℕ
queue_row q = (q.client - first_client) * most_queues + q.queue

-- what is due by ticks stands apart from what is due by nanoseconds
abbrev pub base_of : Due → ℕ
base_of (Tick tick) = 0
base_of (Nanos nanos) = 1

abbrev pub time_of : Due → ℕ
time_of (Tick tick) = tick
time_of (Nanos nanos) = nanos

-- where something stands that is due by a queue
abbrev pub waiting_key : QueueAddr → ℕ → Due → QueueKey
waiting_key queue rank due =
    record { row = 2 * queue_row queue + base_of due; time = time_of due; rank = rank }

abbrev pub waiting_key_by : RankedPlayback → Option Due → QueueKey
waiting_key_by p None = waiting_key p.queue p.rank (Tick 0)
waiting_key_by p (Some due) = waiting_key p.queue p.rank due

-- where a cell stands, by its first event
abbrev pub queue_key : PlaybackCell → QueueKey
queue_key c = waiting_key_by c.1 (next_due c.1.events)

-- ---- each cell is in the agenda or waits

abbrev pub listed : ℕ → PlaybackCell → Listed
listed q c = record { cell = q; rank = c.1.rank }

-- a cell is listed among those of its queue
abbrev pub IsOnList : QueueOrder → ℕ → PlaybackCell → Type 0
IsOnList order q c = IsIn (listed q c) (list_at order.lists (queue_row c.1.queue))

-- a cell waits where it stands
abbrev pub IsWaiting : QueueOrder → ℕ → PlaybackCell → Type 0
IsWaiting order q c = cell_at order.waiting (queue_key c) ≡ Some q

-- the agenda has the key of a cell, if it has one, and it is listed; or it waits
abbrev pub IsPlaced : FinMap nat_cmp Client → QueueOrder → FinMap nat_cmp DueKey → ℕ
    → PlaybackCell → Type 0
IsPlaced clients order agenda q c =
    ((FinMap.get agenda q ≡ key_of clients (Some c)) × IsOnList order q c)
    ⊎ ((FinMap.get agenda q ≡ None) × IsWaiting order q c)

-- what waits is a cell that stands there, and the agenda does not have it
pub record IsWaiter (cells : FinMap nat_cmp PlaybackCell) (agenda : FinMap nat_cmp DueKey)
    (k : QueueKey) (q : ℕ) : Type 0 where
  pub cell : PlaybackCell
  pub here : FinMap.get cells q ≡ Some cell
  pub key : queue_key cell ≡ k
  pub free : FinMap.get agenda q ≡ None

-- Each cell is in the agenda, or waits in the order of its queue, and nothing that waits is due
-- before the earliest.
pub record AreTimed (clients : FinMap nat_cmp Client) (cells : FinMap nat_cmp PlaybackCell)
    (order : QueueOrder) (agenda : FinMap nat_cmp DueKey) : Type 0 where
  pub none : (q : ℕ) → FinMap.get cells q ≡ None → FinMap.get agenda q ≡ None
  pub placed : (q : ℕ) (c : PlaybackCell) → FinMap.get cells q ≡ Some c
      → IsPlaced clients order agenda q c
  pub waits : (k : QueueKey) (q : ℕ) → cell_at order.waiting k ≡ Some q
      → IsWaiter cells agenda k q
  pub early : (k : QueueKey) (q : ℕ) (key : DueKey) → cell_at order.waiting k ≡ Some q
      → key_of clients (FinMap.get cells q) ≡ Some key → order.earliest ≤ key.moment

-- nothing that waits is due by this moment
abbrev pub AreLater : FinMap nat_cmp Client → FinMap nat_cmp PlaybackCell → QueueOrder → ℕ → Type 0
AreLater clients cells order moment =
    (k : QueueKey) (q : ℕ) (key : DueKey) → cell_at order.waiting k ≡ Some q
    → key_of clients (FinMap.get cells q) ≡ Some key → moment < key.moment

-- no cell is due by this moment
abbrev pub NoneComes : FinMap nat_cmp Client → FinMap nat_cmp PlaybackCell → ℕ → Type 0
NoneComes clients cells moment =
    (q : ℕ) (key : DueKey) → key_of clients (FinMap.get cells q) ≡ Some key → moment < key.moment
