use Rattle.std.proofs.Common.{refl}
use Rattle.tempo_clock.proofs.Made.{ordered, kept-new}
use Rattle.tempo_clock.proofs.tempo_table.TempoTable.of_sound.Goals as goal

pub starts_of-requires : goal.starts_of-requires
starts_of-requires c = rw c.as_slice.ensures.value (ordered _ c.requires.entries)

pub invariant_of-result : goal.invariant_of-result
invariant_of-result c = kept-new _ c.args.entries.items _ _ c.requires.ppq c.requires.entries refl (rw c.as_slice.ensures.value at c.in_ok-starts.ensures)
