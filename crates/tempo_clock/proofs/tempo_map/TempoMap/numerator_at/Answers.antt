use Rattle.std.proofs.Common.{◌≤◌, ◌<◌, ◌-◌, ◌^◌, ◌∙◌, ap, length, arith}
use Rattle.tempo_clock.specs.Ticks.{numerator}
use Rattle.tempo_clock.specs.Kept.{entry_at, IsCut}
use Rattle.tempo_clock.proofs.Parts.{second_rises, own-step, own-start_small, own-numerator}
use Rattle.tempo_clock.proofs.tempo_map.TempoMap.numerator_at.Goals as goal

pub entries_to-after-requires : goal.entries_to-after-requires
entries_to-after-requires c = rw c.as_slice.ensures.value (second_rises _ _ c.self.invariant.0.sound.ordered)

pub numerator_at-requires-2-clause-step_small : goal.numerator_at-requires-2-clause-step_small
numerator_at-requires-2-clause-step_small c =
    let own = c.self.inside.added.entries.items in
    let cut : IsCut (λ i. (entry_at own i).tick) (length own) c.args.tick c.entries_to-after.result = rw c.as_slice.ensures.value at c.entries_to-after.ensures in
    let within : c.entries_to-after.result ≤ length own = cut.within in
    let few : (entry_at own (c.entries_to-after.result - 1)).tempo < 2 ^ 24 = (own-step _ _ own _ (c.entries_to-after.result - 1) c.self.invariant.0 (omega (arith, c.if-after-eq0.false))).1 in
    omega (arith, c.segment.ensures.step)

pub numerator_at-requires-2-clause-start_small : goal.numerator_at-requires-2-clause-start_small
numerator_at-requires-2-clause-start_small c =
    let own = c.self.inside.added.entries.items in
    let cut : IsCut (λ i. (entry_at own i).tick) (length own) c.args.tick c.entries_to-after.result = rw c.as_slice.ensures.value at c.entries_to-after.ensures in
    let within : c.entries_to-after.result ≤ length own = cut.within in
    rw (c.segment.ensures.start, c.segment.ensures.tick) (own-start_small _ _ own _ (c.entries_to-after.result - 1) c.self.invariant.0 (omega (arith, c.if-after-eq0.false)))

pub returns-clause-value : goal.returns-clause-value
returns-clause-value c =
    let own = c.self.inside.added.entries.items in
    let cut : IsCut (λ i. (entry_at own i).tick) (length own) c.args.tick c.entries_to-after.result = rw c.as_slice.ensures.value at c.entries_to-after.ensures in
    c.numerator_at-2.ensures.value
    ∙ own-numerator _ _ own _ c.entries_to-after.result c.args.tick _ _ _ c.self.invariant.0 (omega (arith, c.if-after-eq0.false)) cut c.segment.ensures.tick c.segment.ensures.start c.segment.ensures.step
    ∙ ap (λ m. numerator m c.args.tick) c.self.view_is
