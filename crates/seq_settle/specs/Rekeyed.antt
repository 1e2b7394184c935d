-- Representation: Cells on a queue that changed, while they leave the agenda.
use Rattle.std.specs.Prelude.{◌≡◌, ℕ, ◌≤◌, ◌⊎◌, List, Some, None}
use Rattle.std.specs.Ordering.{nat_cmp}
use Rattle.std.specs.FinMap
use Rattle.std.specs.FinMap.{FinMap}
use Rattle.agenda_heap.specs.declared.due_key.DueKey.{DueKey}
use Rattle.node_table.specs.declared.number.QueueAddr.{QueueAddr}
use Rattle.seq_state.specs.State.{Client}
use Rattle.seq_settle.specs.declared.lists.Listed.{Listed}
use Rattle.seq_settle.specs.declared.order.QueueOrder.{QueueOrder}
use Rattle.seq_settle.specs.declared.waiting.QueueKey.{QueueKey}
use Rattle.seq_settle.specs.Cells.{PlaybackCell, key_of}
use Rattle.seq_settle.specs.Lists.{IsIn}
use Rattle.seq_settle.specs.Moments.{SameMoments}
use Rattle.seq_settle.specs.Order.{listed, IsPlaced, IsWaiter, IsWaiting}
use Rattle.seq_settle.specs.Waiting.{cell_at}

-- all queues but one give the same moments here and there
abbrev pub OthersSame : FinMap nat_cmp Client → FinMap nat_cmp Client → QueueAddr → Type 0
OthersSame was clients queue =
    (other : QueueAddr) → (other ≡ queue → ⊥) → SameMoments was clients other

-- The cells on a queue wait, but for those that are listed here; all others are in their places.
pub record AreLeaving (clients : FinMap nat_cmp Client) (cells : FinMap nat_cmp PlaybackCell)
    (order : QueueOrder) (agenda : FinMap nat_cmp DueKey) (queue : QueueAddr)
    (left : List Listed) : Type 0 where
  pub none : (q : ℕ) → FinMap.get cells q ≡ None → FinMap.get agenda q ≡ None
  pub on : (q : ℕ) (c : PlaybackCell) → FinMap.get cells q ≡ Some c → c.1.queue ≡ queue →
      IsIn (listed q c) left ⊎ ((FinMap.get agenda q ≡ None) × IsWaiting order q c)
  pub off : (q : ℕ) (c : PlaybackCell) → FinMap.get cells q ≡ Some c → (c.1.queue ≡ queue → ⊥)
      → IsPlaced clients order agenda q c
  pub waits : (k : QueueKey) (q : ℕ) → cell_at order.waiting k ≡ Some q
      → IsWaiter cells agenda k q
  pub early : (k : QueueKey) (q : ℕ) (c : PlaybackCell) (key : DueKey)
      → cell_at order.waiting k ≡ Some q → FinMap.get cells q ≡ Some c
      → (c.1.queue ≡ queue → ⊥) → key_of clients (Some c) ≡ Some key
      → order.earliest ≤ key.moment
