-- Definition: Tempo maps, and when each tick comes, tick by tick.
use Rattle.std.specs.Prelude.{ℕ, zero, suc, ◌+◌, ◌*◌, ◌-◌, ◌/◌, ◌%◌, ◌^◌, Bool, cond, nat_le, nat_lt, Option, List, [], ◌∷◌, ◌++◌, filter}
use Rattle.std.specs.Int.{div_ceil}
use Rattle.tempo_clock.specs.declared.entry.TempoEntry.{TempoEntry}
use Rattle.tempo_clock.specs.Search.{greatest, least}

-- the division word as in a Standard MIDI File, and the tempo entries, none at a division by frames
pub record Tempos : Type 0 where
  pub division : ℕ
  pub entries : List TempoEntry

-- bit 15 is set: the division is by frames, and no tempo counts
abbrev pub is_smpte : Tempos → Bool
is_smpte m = nat_le 32768 m.division

-- ticks per quarter note, or ticks per second where the division is by frames
unfoldable pub resolution : Tempos → ℕ
resolution m = cond (is_smpte m) ((256 - m.division / 256) * (m.division % 256)) m.division

-- the tempo of the last entry at or before a tick, or the one given where none is
unfoldable pub tempo_or : ℕ → List TempoEntry → ℕ → ℕ
tempo_or tempo [] tick = tempo
tempo_or tempo (e ∷ es) tick = tempo_or (cond (nat_le e.tick tick) e.tempo tempo) es tick

-- how long a tick lasts, in nanoseconds times the resolution: 1000 times the tempo in force, or a
-- second
unfoldable pub duration : Tempos → ℕ → ℕ
duration m tick = cond (is_smpte m) 1000000000 (1000 * tempo_or 0 m.entries tick)

-- how long all ticks before a tick last, in nanoseconds times the resolution
unfoldable pub numerator : Tempos → ℕ → ℕ
numerator m zero = 0
numerator m (suc tick) = numerator m tick + duration m tick

-- when a tick comes, in nanoseconds, rounded up
unfoldable pub nanos_at : Tempos → ℕ → ℕ
nanos_at m tick = div_ceil (numerator m tick) (resolution m)

-- the greatest u64 tick that has come after so many nanoseconds, before any rounding
unfoldable pub tick_at : Tempos → ℕ → ℕ
tick_at m nanos = greatest (λ tick. nat_le (numerator m tick) (nanos * resolution m)) (2 ^ 64 - 1)

-- the least u64 tick that does not come before so many nanoseconds, if there is one
unfoldable pub first_tick_from : Tempos → ℕ → Option ℕ
first_tick_from m nanos =
    least (λ tick. nat_le (nanos * resolution m) (numerator m tick)) (2 ^ 64 - 1)

-- the map with one tempo from a tick on
abbrev pub with_tempo_from : Tempos → ℕ → ℕ → Tempos
with_tempo_from m from tempo =
    record m {
      entries = filter (λ e. nat_lt e.tick from) m.entries
          ++ record { tick = from; tempo = tempo } ∷ [];
    }
