-- Definition: The clock of a queue, and the moment of an event on it.
use Rattle.std.specs.Prelude.{ℕ, ◌+◌, ◌-◌, ◌^◌, Bool, false, ◌&&◌, nat_le, Option, Some, None}
use Rattle.tempo_clock.specs.declared.due.Due.{Due}
use Rattle.tempo_clock.specs.declared.due.Due.TheVariants.{Tick, Nanos}
use Rattle.tempo_clock.specs.Search.{least}
use Rattle.tempo_clock.specs.Ticks.{Tempos, nanos_at, first_tick_from, with_tempo_from}

-- a clock is held at a time, or has run from that time since a moment; all in nanoseconds
pub record Clock : Type 0 where
  pub map : Tempos
  pub time : ℕ
  pub since : Option ℕ

-- what it shows at a moment
abbrev pub elapsed_from : ℕ → Option ℕ → ℕ → ℕ
elapsed_from time None moment = time
elapsed_from time (Some since) moment = time + (moment - since)

abbrev pub elapsed_time : Clock → ℕ → ℕ
elapsed_time c moment = elapsed_from c.time c.since moment

-- it runs, and began to before the moment or at it
abbrev pub runs_by : Option ℕ → ℕ → Bool
runs_by None moment = false
runs_by (Some since) moment = nat_le since moment

-- it runs from 0
abbrev pub running_from_zero : Clock → ℕ → Clock
running_from_zero c moment = record c { time = 0; since = Some moment }

-- it is held at what it shows
abbrev pub at_rest : Clock → ℕ → Clock
at_rest c moment = record c { time = elapsed_time c moment; since = None }

-- it runs on from where it was held
abbrev pub running_on : Clock → ℕ → Clock
running_on c moment = record c { since = Some moment }

-- one tempo from a tick on, where there is such a tick
abbrev pub changed_from : Tempos → Option ℕ → ℕ → Tempos
changed_from m None tempo = m
changed_from m (Some tick) tempo = with_tempo_from m tick tempo

-- one tempo from the first tick on whose time is not before what the clock shows
abbrev pub with_tempo : Clock → ℕ → ℕ → Clock
with_tempo c moment tempo =
    record c { map = changed_from c.map (first_tick_from c.map (elapsed_time c moment)) tempo }

-- the time of the queue at which something is due
abbrev pub due_time : Tempos → Due → ℕ
due_time m (Tick tick) = nanos_at m tick
due_time m (Nanos nanos) = nanos

-- by this moment the event was accepted, the clock has run since its last start, and shows the due
-- time
abbrev pub is_due : Clock → ℕ → Due → ℕ → Bool
is_due c accepted due moment = nat_le accepted moment
    && (runs_by c.since moment && nat_le (due_time c.map due) (elapsed_time c moment))

-- the least u64 moment by which an event is due, if there is one
unfoldable pub moment_of : Clock → ℕ → Due → Option ℕ
moment_of c accepted due = least (is_due c accepted due) (2 ^ 64 - 1)
