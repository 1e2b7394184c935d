use Rattle.std.proofs.Common.{subst}
use Rattle.tempo_clock.specs.Ticks.{Tempos, numerator}
use Rattle.tempo_clock.specs.Kept.{IsSplit}
use Rattle.tempo_clock.proofs.BinarySearches.{starts_rise, split_starts}
use Rattle.tempo_clock.proofs.tempo_table.TempoTable.entries_within.Goals as goal

pub starts_to-requires : goal.starts_to-requires
starts_to-requires c =
    let m : Tempos = record { division = c.self.inside.division; entries = c.self.inside.entries.items } in
    rw c.as_slice.ensures.value (starts_rise m _ c.self.invariant.sound.ordered c.self.invariant.starting)

pub returns : goal.returns
returns c =
    let m : Tempos = record { division = c.self.inside.division; entries = c.self.inside.entries.items } in
    subst (λ m. IsSplit (numerator m) m.entries c.args.limit c.starts_to.result) c.self.view_is
    (split_starts m c.self.inside.starts.items c.args.limit _ c.self.invariant.sound.ordered c.self.invariant.starting (rw c.as_slice.ensures.value at c.starts_to.ensures))
