use Rattle.std.proofs.Common.{◌*◌, ◌∙◌, ap, sym, subst}
use Rattle.tempo_clock.specs.Ticks.{numerator}
use Rattle.tempo_clock.specs.Kept.{AreTemposSound}
use Rattle.tempo_clock.proofs.Segments.{sound-lasts}
use Rattle.tempo_clock.proofs.Found.{first_tick-now, first_tick-next}
use Rattle.tempo_clock.proofs.tempo_map.TempoMap.first_tick_from.Goals as goal

pub returns-then-numerator_at-nanos : goal.returns-then-numerator_at-nanos
returns-then-numerator_at-nanos c =
    let sound : AreTemposSound c.args.self.now = subst AreTemposSound c.self.view_is c.self.invariant.0.sound in
    first_tick-now _ _ (c.args.nanos * c.ppq.result) _ (sound-lasts _ sound) (ap (λ n. c.args.nanos * n) c.ppq.ensures.value) c.tick_at-tick.type_inv
    (sym c.numerator_at.ensures.value ∙ c.if-numerator_at-nanos.true)

pub returns : goal.returns
returns c =
    first_tick-next _ _ (c.args.nanos * c.ppq.result) (ap (λ n. c.args.nanos * n) c.ppq.ensures.value)
    (λ e. c.if-numerator_at-nanos.false (c.numerator_at.ensures.value ∙ ap (numerator c.args.self.now) c.tick_at-tick.ensures ∙ e)) _
    (rw c.tick_at-tick.ensures at c.checked_add.ensures)
