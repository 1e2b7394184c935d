-- Worked rows: The definitions at a few ticks.
use Rattle.std.specs.Prelude.{◌≡◌, [], ◌∷◌}
use Rattle.tempo_clock.specs.Entries.{smpte_word}
use Rattle.tempo_clock.specs.Ticks.{Tempos, resolution, nanos_at, with_tempo_from}

-- 480 ticks per quarter note, two quarter notes a second
abbrev pub two_a_second : Tempos
two_a_second = record { division = 480; entries = record { tick = 0; tempo = 500000 } ∷ [] }

-- rounded up at each tick alone
pub record TickTimes : Type 0 where
  pub first : nanos_at two_a_second 1 ≡ 1041667
  pub third : nanos_at two_a_second 3 ≡ 3125000
  pub quarter : nanos_at two_a_second 480 ≡ 500000000

-- the time up to a change of tempo is not rounded on the way
abbrev pub TickAfterChange : Type 0
TickAfterChange = nanos_at (with_tempo_from two_a_second 1 250000) 2 ≡ 1562500

-- 80 ticks in each of 30 frames a second
abbrev pub thirty_frames : Tempos
thirty_frames = record { division = smpte_word 30 80; entries = [] }

pub record FrameTimes : Type 0 where
  pub per_second : resolution thirty_frames ≡ 2400
  pub first : nanos_at thirty_frames 1 ≡ 416667
  pub third : nanos_at thirty_frames 3 ≡ 1250000
