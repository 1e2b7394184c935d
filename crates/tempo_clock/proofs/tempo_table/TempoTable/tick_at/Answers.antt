use Rattle.std.proofs.Common.{◌≡◌, ◌≤◌, ◌<◌, ◌*◌, ◌^◌, ◌∙◌, length, ap, sym, subst, arith}
use Rattle.tempo_clock.specs.Ticks.{numerator}
use Rattle.tempo_clock.specs.Kept.{AreStartsKept, entry_at}
use Rattle.tempo_clock.proofs.Found.{tick_at-is}
use Rattle.tempo_clock.proofs.tempo_table.TempoTable.tick_at.Goals as goal

pub returns : goal.returns
returns c =
    let kept : AreStartsKept c.args.self.now c.self.inside.ppq c.self.inside.starts.items = subst (λ m. AreStartsKept m c.self.inside.ppq c.self.inside.starts.items) c.self.view_is c.self.invariant in
    let limit = c.args.nanos * c.self.inside.ppq in
    let start : c.segment.result.start ≡ numerator c.args.self.now c.segment.result.tick = c.segment.ensures.start in
    let low : c.segment.result.start ≤ limit = rw (start, c.segment.ensures.tick) c.entries_within.ensures.low in
    let fits : c.segment.result.tick < 2 ^ 64 = omega (arith, c.segment.type_inv) in
    c.tick_within.ensures
    ∙ sym (tick_at-is _ _ limit _ _ _ (length c.args.self.now.entries) c.entries_within.result (entry_at c.args.self.now.entries c.entries_within.result).tick (ap (λ n. c.args.nanos * n) kept.counted_by) start low c.segment.ensures.step fits c.segment.ensures.covers c.entries_within.ensures.high)
