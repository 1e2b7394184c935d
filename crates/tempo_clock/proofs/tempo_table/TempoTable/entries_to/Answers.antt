use Rattle.std.proofs.Common.{subst}
use Rattle.tempo_clock.specs.Kept.{IsSplit}
use Rattle.tempo_clock.proofs.BinarySearches.{ticks_rise, split_ticks}
use Rattle.tempo_clock.proofs.tempo_table.TempoTable.entries_to.Goals as goal

pub entries_to-requires : goal.entries_to-requires
entries_to-requires c = rw c.as_slice.ensures.value (ticks_rise _ c.self.invariant.sound.ordered)

pub returns : goal.returns
returns c =
    subst (λ m. IsSplit (λ t. t) m.entries c.args.tick c.entries_to.result) c.self.view_is
    (split_ticks c.self.inside.entries.items c.args.tick _ c.self.invariant.sound.ordered (rw c.as_slice.ensures.value at c.entries_to.ensures))
