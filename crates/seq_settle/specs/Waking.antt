-- Representation: What waits, and the moments before which it is not due.
use Rattle.std.specs.Prelude.{◌≡◌, ℕ, ◌≤◌, Some, true}
use Rattle.std.specs.Ordering.{nat_cmp}
use Rattle.std.specs.FinMap.{FinMap}
use Rattle.tempo_clock.specs.declared.due.Due.{Due}
use Rattle.seq_state.specs.State.{Client}
use Rattle.seq_settle.specs.declared.head.PlaybackHead.{PlaybackHead}
use Rattle.seq_settle.specs.Cells.{due_le}
use Rattle.seq_settle.specs.Moments.{moment_at}

-- what is due by a cell's queue at its due time or later has no earlier moment
abbrev pub IsLeastMoment : FinMap nat_cmp Client → PlaybackHead → ℕ → Type 0
IsLeastMoment clients head least =
    (d e : Due) (accepted m : ℕ) → head.due ≡ Some d → due_le d e ≡ true
    → moment_at clients head.queue accepted e ≡ Some m → least ≤ m
