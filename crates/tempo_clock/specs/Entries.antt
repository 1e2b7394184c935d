-- Definition: Which divisions and entries make a tempo map.
use Rattle.std.specs.Prelude.{ℕ, ◌+◌, ◌*◌, ◌-◌, Bool, true, false, ◌==◌, ◌&&◌, ◌||◌, nat_le, nat_lt, List, [], ◌∷◌}
use Rattle.tempo_clock.specs.declared.entry.TempoEntry.{TempoEntry}

-- microseconds per quarter note that fit the three bytes of a tempo event
abbrev pub is_tempo : ℕ → Bool
is_tempo tempo = nat_le 1 tempo && nat_le tempo 16777215

-- ticks per quarter note that fit the fifteen bits of a division
abbrev pub is_ppq : ℕ → Bool
is_ppq ppq = nat_le 1 ppq && nat_le ppq 32767

-- each tick is above the one before, and each tempo is in range
abbrev pub are_rising_from : ℕ → List TempoEntry → Bool
are_rising_from tick [] = true
are_rising_from tick (e ∷ es) =
    nat_lt tick e.tick && (is_tempo e.tempo && are_rising_from e.tick es)

-- the first entry stands at tick 0, and the ticks rise
abbrev pub are_entries : List TempoEntry → Bool
are_entries [] = false
are_entries (e ∷ es) = (e.tick == 0) && (is_tempo e.tempo && are_rising_from 0 es)

-- frames per second and ticks per frame of a division that a file can name, without drop-frame
abbrev pub is_smpte_rate : ℕ → ℕ → Bool
is_smpte_rate frames per_frame =
    ((frames == 24) || ((frames == 25) || (frames == 30))) && nat_le 1 per_frame

-- the division word of a Standard MIDI File: the high byte is minus the frames, the low byte the
-- ticks per frame
abbrev pub smpte_word : ℕ → ℕ → ℕ
smpte_word frames per_frame = (256 - frames) * 256 + per_frame
