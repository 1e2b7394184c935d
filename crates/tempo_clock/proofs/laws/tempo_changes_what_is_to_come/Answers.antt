use Rattle.tempo_clock.proofs.TickLaws.{tempo_keeps_ticks, tempo_is_not_before}
use Rattle.tempo_clock.proofs.MomentLaws.{tempo_keeps_moments}
use Rattle.tempo_clock.proofs.laws.tempo_changes_what_is_to_come.Goals as goal

pub returns-clause-ticks : goal.returns-clause-ticks
returns-clause-ticks c = tempo_keeps_ticks

pub returns-clause-not_before : goal.returns-clause-not_before
returns-clause-not_before c = tempo_is_not_before

pub returns-clause-moments : goal.returns-clause-moments
returns-clause-moments c = tempo_keeps_moments
