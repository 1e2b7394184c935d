-- Representation: What a tempo map keeps beside the table that it shares.
use Rattle.std.specs.Prelude.{◌≡◌, ℕ, ◌<◌, ◌≤◌, ◌++◌, List, length, take, slice_index, vec_capacity}
use Rattle.std.specs.Rc.{rc_value}
use Rattle.tempo_clock.specs.declared.entry.TempoEntry.{TempoEntry}
use Rattle.tempo_clock.specs.declared.added.Added.{Added}
use Rattle.tempo_clock.specs.declared.tempo_map.BaseTable.{BaseTable}
use Rattle.tempo_clock.specs.declared.tempo_map.BaseTable.TheVariants.{Frames, Shared}
use Rattle.tempo_clock.specs.Ticks.{Tempos, numerator}
use Rattle.tempo_clock.specs.Kept.{entry_at, AreTemposSound}

-- the table that a map is made of
abbrev pub table_of : BaseTable → Tempos
table_of (Frames table) = table
table_of (Shared table) = rc_value table

-- the first entries of a table, and others behind them
abbrev pub tempos_seen : Tempos → ℕ → List TempoEntry → Tempos
tempos_seen table kept own =
    record { division = table.division; entries = take kept table.entries ++ own }

-- what a map keeps beside its table: entries of its own, each with the numerator of its tick. Up to
-- the first of them, ticks come as by the table
pub record IsMapKept (table : Tempos) (kept : ℕ) (own : List TempoEntry) (starts : List ℕ)
    : Type 0 where
  pub within : kept ≤ length table.entries
  pub sound : AreTemposSound (tempos_seen table kept own)
  pub counted : length starts ≡ length own
  pub starting : (i : ℕ) → i < length own
      → slice_index starts i ≡ numerator (tempos_seen table kept own) (entry_at own i).tick
  pub by_table : (t : ℕ) → (0 < length own → t ≤ (entry_at own 0).tick)
      → numerator table t ≡ numerator (tempos_seen table kept own) t

-- one entry can be put in place of all of them without memory
abbrev pub HasRoomForTempo : Added → Type 0
HasRoomForTempo added = (0 < vec_capacity added.entries) × (0 < vec_capacity added.starts)
