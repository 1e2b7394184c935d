use Rattle.tempo_clock.proofs.MomentLaws.{moments_are_later, moments_rise}
use Rattle.tempo_clock.proofs.laws.moments_rise.Goals as goal

pub returns-clause-later : goal.returns-clause-later
returns-clause-later c = moments_are_later

pub returns-clause-rise : goal.returns-clause-rise
returns-clause-rise c = moments_rise
