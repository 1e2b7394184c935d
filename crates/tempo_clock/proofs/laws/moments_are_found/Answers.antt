use Rattle.tempo_clock.proofs.MomentLaws.{moments_are_first, moments_are_all}
use Rattle.tempo_clock.proofs.laws.moments_are_found.Goals as goal

pub returns-clause-first : goal.returns-clause-first
returns-clause-first c = moments_are_first

pub returns-clause-all : goal.returns-clause-all
returns-clause-all c = moments_are_all
