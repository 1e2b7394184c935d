use Rattle.std.proofs.Common.{◌≡◌, ◌≤◌, ◌<◌, ◌-◌, ◌*◌, ◌^◌, ◌∙◌, ap, subst, length, arith}
use Rattle.tempo_clock.specs.Ticks.{numerator, resolution, tick_at}
use Rattle.tempo_clock.specs.Kept.{entry_at, IsCut}
use Rattle.tempo_clock.specs.Shared.{table_of, tempos_seen}
use Rattle.tempo_clock.proofs.BinarySearches.{cut_numerators}
use Rattle.tempo_clock.proofs.Parts.{own_starts_rise, own-step, own-tick_at, table-tick_at}
use Rattle.tempo_clock.proofs.tempo_map.TempoMap.tick_at.Goals as goal

pub starts_to-after-requires : goal.starts_to-after-requires
starts_to-after-requires c = rw c.as_slice.ensures.value (own_starts_rise _ _ _ _ c.self.invariant.0)

pub returns-then-after-eq0 : goal.returns-then-after-eq0
returns-then-after-eq0 c =
    let m = tempos_seen (table_of c.self.inside.base) c.self.inside.kept c.self.inside.added.entries.items in
    let own = c.self.inside.added.entries.items in
    let limit = c.args.nanos * c.ppq.result in
    let cut : IsCut (λ i. numerator m (entry_at own i).tick) (length own) limit c.starts_to-after.result
    = cut_numerators m own c.self.inside.added.starts.items limit _ c.self.invariant.0.counted c.self.invariant.0.starting (rw c.as_slice.ensures.value at c.starts_to-after.ensures) in
    c.tick_at.ensures ∙ ap (λ t. tick_at t c.args.nanos) c.table-table.ensures
    ∙ table-tick_at _ _ own _ c.args.nanos limit c.self.invariant.0 (ap (λ n. c.args.nanos * n) (c.ppq.ensures.value ∙ ap resolution c.table-table.ensures)) (subst (λ n. IsCut (λ i. numerator m (entry_at own i).tick) (length own) limit n) c.if-after-eq0.true cut)
    ∙ ap (λ m. tick_at m c.args.nanos) c.self.view_is

pub tick_within-requires-clause-lasts : goal.tick_within-requires-clause-lasts
tick_within-requires-clause-lasts c =
    let own = c.self.inside.added.entries.items in
    let within : c.starts_to-after.result ≤ length c.self.inside.added.starts.items = rw c.as_slice.ensures.value at c.starts_to-after.ensures.within in
    let counted : length c.self.inside.added.starts.items ≡ length own = c.self.invariant.0.counted in
    let some : 0 < (entry_at own (c.starts_to-after.result - 1)).tempo = (own-step _ _ own _ (c.starts_to-after.result - 1) c.self.invariant.0 (omega (arith, c.if-after-eq0.false))).0 in
    omega (arith, c.segment.ensures.step)

pub returns : goal.returns
returns c =
    let m = tempos_seen (table_of c.self.inside.base) c.self.inside.kept c.self.inside.added.entries.items in
    let own = c.self.inside.added.entries.items in
    let limit = c.args.nanos * c.ppq.result in
    let cut : IsCut (λ i. numerator m (entry_at own i).tick) (length own) limit c.starts_to-after.result
    = cut_numerators m own c.self.inside.added.starts.items limit _ c.self.invariant.0.counted c.self.invariant.0.starting (rw c.as_slice.ensures.value at c.starts_to-after.ensures) in
    let fits : c.segment.result.tick < 2 ^ 64 = omega (arith, c.segment.type_inv) in
    c.tick_within.ensures
    ∙ own-tick_at _ _ own _ c.starts_to-after.result c.args.nanos limit _ _ _ c.self.invariant.0 (omega (arith, c.if-after-eq0.false)) (ap (λ n. c.args.nanos * n) (c.ppq.ensures.value ∙ ap resolution c.table-table.ensures)) cut fits c.segment.ensures.tick c.segment.ensures.start c.segment.ensures.step
    ∙ ap (λ m. tick_at m c.args.nanos) c.self.view_is
