-- Representation: The soonest of the moments at which cells are due.
use Rattle.std.specs.Prelude.{◌≡◌, ℕ, nat_lt, Bool, true, false, if◌then◌else◌, Option, Some, None}
use Rattle.std.specs.Ordering.{nat_cmp}
use Rattle.std.specs.FinMap
use Rattle.std.specs.FinMap.{FinMap}
use Rattle.tempo_clock.specs.Laws.{NoLater}
use Rattle.seq_state.specs.State.{Client}
use Rattle.agenda_heap.specs.declared.due_key.DueKey.{DueKey}
use Rattle.agenda_heap.specs.Due.{IsFirst}
use Rattle.seq_settle.specs.declared.order.QueueOrder.{QueueOrder}
use Rattle.seq_settle.specs.declared.waiting.QueueKey.{QueueKey}
use Rattle.seq_settle.specs.Cells.{PlaybackCell, key_of}
use Rattle.seq_settle.specs.Waiting.{cell_at}

-- whether a moment comes before another, where none never comes
abbrev pub is_sooner : Option ℕ → Option ℕ → Bool
is_sooner None other = false
is_sooner (Some m) None = true
is_sooner (Some m) (Some n) = nat_lt m n

-- the sooner of two moments
abbrev pub sooner : Option ℕ → Option ℕ → Option ℕ
sooner a b = if is_sooner b a then b else a

-- the least of these moments; none where there are none
pub record IsSoonest (Has : ℕ → Type 0) (least : Option ℕ) : Type 0 where
  pub there : (m : ℕ) → least ≡ Some m → Has m
  pub first : (m : ℕ) → Has m → NoLater least (Some m)

-- some cell is due at this moment
pub record IsDueAt (clients : FinMap nat_cmp Client) (cells : FinMap nat_cmp PlaybackCell)
    (moment : ℕ) : Type 0 where
  pub cell : ℕ
  pub key : DueKey
  pub keyed : key_of clients (FinMap.get cells cell) ≡ Some key
  pub at : key.moment ≡ moment

-- some cell that waits is
pub record WaitsUntil (clients : FinMap nat_cmp Client) (cells : FinMap nat_cmp PlaybackCell)
    (order : QueueOrder) (moment : ℕ) : Type 0 where
  pub place : QueueKey
  pub cell : ℕ
  pub key : DueKey
  pub waits : cell_at order.waiting place ≡ Some cell
  pub keyed : key_of clients (FinMap.get cells cell) ≡ Some key
  pub at : key.moment ≡ moment

-- this is the moment of an agenda's least key
pub record IsFirstMoment (agenda : FinMap nat_cmp DueKey) (moment : ℕ) : Type 0 where
  pub key : DueKey
  pub first : IsFirst agenda key
  pub at : key.moment ≡ moment
