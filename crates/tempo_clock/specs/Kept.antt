-- Representation: What a table of tempos keeps beside its entries, so that ticks are found by
-- binary search.
use Rattle.std.specs.Prelude.{◌≡◌, ℕ, ◌-◌, ◌^◌, ◌<◌, ◌≤◌, List, length, take, filter, nat_lt, slice_index, slice_index_or}
use Rattle.tempo_clock.specs.declared.entry.TempoEntry.{TempoEntry}
use Rattle.tempo_clock.specs.Ticks.{Tempos, resolution, numerator}

-- an entry by its index, all 0 past the end
abbrev pub entry_at : List TempoEntry → ℕ → TempoEntry
entry_at entries i = slice_index_or entries i (record { tick = 0; tempo = 0 })

-- the first entry stands at tick 0, the ticks rise, and each tempo is above 0 and fits three bytes
pub record AreOrdered (entries : List TempoEntry) : Type 0 where
  pub first : (entry_at entries 0).tick ≡ 0
  pub rising : (i j : ℕ) → i < j → j < length entries
      → (entry_at entries i).tick < (entry_at entries j).tick
  pub above : (i : ℕ) → i < length entries → 0 < (entry_at entries i).tempo
  pub below : (i : ℕ) → (entry_at entries i).tempo < 2 ^ 24

-- the numerator of each entry's tick
pub record AreStarts (m : Tempos) (starts : List ℕ) : Type 0 where
  pub counted : length starts ≡ length m.entries
  pub each : (i : ℕ) → i < length m.entries
      → slice_index starts i ≡ numerator m (entry_at m.entries i).tick

-- there are entries where the division is metrical, none by frames, and they are in order
pub record AreTemposSound (m : Tempos) : Type 0 where
  pub metrical : m.division < 32768 → 0 < length m.entries
  pub smpte : 32768 ≤ m.division → length m.entries ≡ 0
  pub ordered : AreOrdered m.entries

-- the ticks per quarter note or second, and the numerators of the entries
pub record AreStartsKept (m : Tempos) (ppq : ℕ) (starts : List ℕ) : Type 0 where
  pub counted_by : ppq ≡ resolution m
  pub some_ticks : 0 < ppq
  pub few_ticks : ppq < 2 ^ 15
  pub sound : AreTemposSound m
  pub starting : AreStarts m starts

-- of values that rise, so many are up to a bound
pub record IsCut (value : ℕ → ℕ) (count bound after : ℕ) : Type 0 where
  pub within : after ≤ count
  pub low : 0 < after → value (after - 1) ≤ bound
  pub high : after < count → bound < value after

-- how many entries have a tick whose value is up to a bound, where the values rise with the tick;
-- the first has one
pub record IsSplit (value : ℕ → ℕ) (entries : List TempoEntry) (bound after : ℕ) : Type 0 where
  pub within : after ≤ length entries
  pub low : value (entry_at entries (after - 1)).tick ≤ bound
  pub high : after < length entries → bound < value (entry_at entries after).tick
  pub empty : after ≡ 0 → length entries ≡ 0

-- as many of the first entries stand before a tick, and they are all that do
pub record AreBefore (entries : List TempoEntry) (tick kept : ℕ) : Type 0 where
  pub within : kept ≤ length entries
  pub each : (i : ℕ) → i < kept → (entry_at entries i).tick < tick
  pub rest : kept < length entries → tick ≤ (entry_at entries kept).tick
  pub all : take kept entries ≡ filter (λ e. nat_lt e.tick tick) entries
