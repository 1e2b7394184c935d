-- Representation: Cells that wait, by the keys at which they stand.
use Rattle.std.specs.Prelude.{ℕ, Bool, nat_lt, ◌==◌, ◌&&◌, ◌||◌, Option}
use Rattle.std.specs.BTreeMap.{get}
use Rattle.std.specs.Ordering.{nat_cmp, ordering_then}
use Rattle.std.specs.declared.cmp.Ordering.{Ordering}
use Rattle.seq_settle.specs.declared.waiting.QueueKey.{QueueKey}
use Rattle.seq_settle.specs.declared.waiting.WaitingCells.{WaitingCells}

-- by row, then by time, then by rank
abbrev pub queue_cmp : QueueKey → QueueKey → Ordering
queue_cmp a b =
    ordering_then (nat_cmp a.row b.row)
    (ordering_then (nat_cmp a.time b.time) (nat_cmp a.rank b.rank))

-- whether two keys are one
abbrev pub is_same : QueueKey → QueueKey → Bool
is_same a b = a.row == b.row && (a.time == b.time && a.rank == b.rank)

-- whether a key stands before another
abbrev pub is_before : QueueKey → QueueKey → Bool
is_before a b =
    nat_lt a.row b.row || (a.row == b.row && (nat_lt a.time b.time
    || (a.time == b.time && nat_lt a.rank b.rank)))

-- the cell that waits at a key
abbrev pub cell_at : WaitingCells → QueueKey → Option ℕ
cell_at w k = get queue_cmp w.cells k
