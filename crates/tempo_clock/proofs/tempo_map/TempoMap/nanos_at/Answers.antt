use Rattle.std.proofs.Common.{◌∙◌, ap}
use Rattle.std.specs.Int.{div_ceil}
use Rattle.tempo_clock.specs.Ticks.{numerator, nanos_at}
use Rattle.tempo_clock.proofs.tempo_map.TempoMap.nanos_at.Goals as goal

pub returns-clause-value : goal.returns-clause-value
unfolding nanos_at
returns-clause-value c =
    c.div_ceil.ensures ∙ ap (λ n. div_ceil n c.ppq.result) c.numerator_at.ensures.value
    ∙ ap (div_ceil (numerator c.args.self.now c.args.tick)) c.ppq.ensures.value
