use Rattle.std.proofs.Common.{refl}
use Rattle.tempo_clock.specs.Ticks.{nanos_at, numerator, duration, tempo_or, resolution}
use Rattle.tempo_clock.proofs.laws.worked_ticks.Goals as goal

pub returns-clause-quarters : goal.returns-clause-quarters
unfolding nanos_at numerator duration tempo_or resolution
returns-clause-quarters c = record { first = refl; third = refl; quarter = refl }

pub returns-clause-change : goal.returns-clause-change
unfolding nanos_at numerator duration tempo_or resolution
returns-clause-change c = refl

pub returns-clause-frames : goal.returns-clause-frames
unfolding nanos_at numerator duration tempo_or resolution
returns-clause-frames c = record { per_second = refl; first = refl; third = refl }
