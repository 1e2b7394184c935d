-- Law: What holds of tempo maps and clocks, for all numbers.
use Rattle.std.specs.Prelude.{◌≡◌, ℕ, ◌*◌, ◌<◌, ◌≤◌, ◌^◌, ◌↔◌, true, false, Option, Some, None}
use Rattle.tempo_clock.specs.declared.due.Due.{Due}
use Rattle.tempo_clock.specs.Ticks.{Tempos, resolution, duration, numerator, nanos_at, tick_at, first_tick_from, with_tempo_from}
use Rattle.tempo_clock.specs.Clocks.{Clock, elapsed_time, runs_by, running_from_zero, at_rest, running_on, due_time, is_due, with_tempo, moment_of}

-- a tick comes at the least number of nanoseconds that reaches its numerator
abbrev pub NanosAreLeast : Type 0
NanosAreLeast = (m : Tempos) (tick nanos : ℕ) → 0 < resolution m
    → (numerator m tick ≤ nanos * resolution m) ↔ (nanos_at m tick ≤ nanos)

-- a later tick does not come before
abbrev pub NanosRise : Type 0
NanosRise = (m : Tempos) (s t : ℕ) → s ≤ t → nanos_at m s ≤ nanos_at m t

-- the numerator is reached by then, and no later u64 tick's is
pub record IsLastTick (m : Tempos) (nanos tick : ℕ) : Type 0 where
  pub fits : tick < 2 ^ 64
  pub reached : numerator m tick ≤ nanos * resolution m
  pub last : (t : ℕ) → t < 2 ^ 64 → numerator m t ≤ nanos * resolution m → t ≤ tick

abbrev pub TicksAreLast : Type 0
TicksAreLast = (m : Tempos) (nanos : ℕ) → IsLastTick m nanos (tick_at m nanos)

-- the numerator is at least what is reached by then, and no earlier tick's is
pub record IsFirstTick (m : Tempos) (nanos tick : ℕ) : Type 0 where
  pub fits : tick < 2 ^ 64
  pub later : nanos * resolution m ≤ numerator m tick
  pub first : (t : ℕ) → nanos * resolution m ≤ numerator m t → tick ≤ t

abbrev pub TicksAreFirst : Type 0
TicksAreFirst =
    (m : Tempos) (nanos tick : ℕ) → first_tick_from m nanos ≡ Some tick → IsFirstTick m nanos tick

-- where there is no first tick, each u64 tick comes before
abbrev pub TicksAllBefore : Type 0
TicksAllBefore = (m : Tempos) (nanos t : ℕ) → first_tick_from m nanos ≡ None → t < 2 ^ 64
    → numerator m t < nanos * resolution m

-- at the time of a tick, it or a later one is the last that has come
abbrev pub TicksComeBack : Type 0
TicksComeBack = (m : Tempos) (t : ℕ) → 0 < resolution m → t < 2 ^ 64 → t ≤ tick_at m (nanos_at m t)

-- it is that tick where the tick lasts at least a nanosecond
abbrev pub TicksComeBackExactly : Type 0
TicksComeBackExactly = (m : Tempos) (t : ℕ) → 0 < resolution m → t < 2 ^ 64
    → resolution m ≤ duration m t → tick_at m (nanos_at m t) ≡ t

-- an event is due then, and not before
pub record IsMoment (c : Clock) (accepted : ℕ) (due : Due) (moment : ℕ) : Type 0 where
  pub fits : moment < 2 ^ 64
  pub due_then : is_due c accepted due moment ≡ true
  pub first : (t : ℕ) → is_due c accepted due t ≡ true → moment ≤ t

abbrev pub MomentsAreFirst : Type 0
MomentsAreFirst = (c : Clock) (accepted : ℕ) (due : Due) (moment : ℕ)
    → moment_of c accepted due ≡ Some moment → IsMoment c accepted due moment

-- where there is no moment, the event is due at none
abbrev pub MomentsAreAll : Type 0
MomentsAreAll = (c : Clock) (accepted : ℕ) (due : Due) (t : ℕ) → moment_of c accepted due ≡ None
    → t < 2 ^ 64 → is_due c accepted due t ≡ false

-- a moment is not before the acceptance, and the clock runs by then: not before its last start
-- either
abbrev pub MomentsAreLater : Type 0
MomentsAreLater = (c : Clock) (accepted : ℕ) (due : Due) (moment : ℕ)
    → moment_of c accepted due ≡ Some moment → (accepted ≤ moment) × (runs_by c.since moment ≡ true)

-- the first is not after the second; no moment is after all
abbrev pub NoLater : Option ℕ → Option ℕ → Type 0
NoLater a None = Unit {0}
NoLater None (Some b) = ⊥
NoLater (Some a) (Some b) = a ≤ b

-- what is accepted later and due later has no earlier moment
abbrev pub MomentsRise : Type 0
MomentsRise = (c : Clock) (a b : ℕ) (d e : Due) → a ≤ b → due_time c.map d ≤ due_time c.map e
    → NoLater (moment_of c a d) (moment_of c b e)

-- a change of tempo leaves the times of the ticks up to it
abbrev pub TempoKeepsTicks : Type 0
TempoKeepsTicks = (m : Tempos) (from tempo t : ℕ) → t ≤ from
    → nanos_at (with_tempo_from m from tempo) t ≡ nanos_at m t

-- and gives no tick from there on a time before that of the change
abbrev pub TempoIsNotBefore : Type 0
TempoIsNotBefore = (m : Tempos) (nanos from tempo t : ℕ) → 0 < resolution m
    → first_tick_from m nanos ≡ Some from → from ≤ t
    → nanos ≤ nanos_at (with_tempo_from m from tempo) t

-- where no tick is left to change, nothing changes
abbrev pub TempoChangesNothing : Type 0
TempoChangesNothing = (c : Clock) (moment tempo : ℕ)
    → first_tick_from c.map (elapsed_time c moment) ≡ None → with_tempo c moment tempo ≡ c

-- a change of tempo leaves each moment before it as it was, and gives no event such a moment that
-- had it not
abbrev pub TempoKeepsMoments : Type 0
TempoKeepsMoments = (c : Clock) (moment tempo accepted : ℕ) (due : Due) (k : ℕ)
    → 0 < resolution c.map → k < moment
    → (moment_of c accepted due ≡ Some k)
    ↔ (moment_of (with_tempo c moment tempo) accepted due ≡ Some k)

-- the moments that the clock was told are up to this one, and it never ran for longer
pub record IsToldBy (c : Clock) (moment : ℕ) : Type 0 where
  pub held : c.time ≤ moment
  pub running : (since : ℕ) → c.since ≡ Some since → (c.time ≤ since) × (since ≤ moment)

-- whatever is done at a moment, it stays so
pub record GoesOn (c : Clock) (moment tempo : ℕ) : Type 0 where
  pub shown : elapsed_time c moment ≤ moment
  pub unused : IsToldBy c moment
  pub start : IsToldBy (running_from_zero c moment) moment
  pub stop : IsToldBy (at_rest c moment) moment
  pub resume : IsToldBy (running_on c moment) moment
  pub set_tempo : IsToldBy (with_tempo c moment tempo) moment

-- a new clock was told no moment
abbrev pub ClocksBegin : Type 0
ClocksBegin =
    (m : Tempos) (moment : ℕ) → IsToldBy (record { map = m; time = 0; since = None }) moment

-- moments that do not fall are enough for all that a clock does
abbrev pub ClocksGoOn : Type 0
ClocksGoOn = (c : Clock) (before moment tempo : ℕ) → IsToldBy c before → before ≤ moment
    → GoesOn c moment tempo
