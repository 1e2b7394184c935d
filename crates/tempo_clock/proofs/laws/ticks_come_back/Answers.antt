use Rattle.tempo_clock.proofs.TickLaws.{ticks_come_back, ticks_come_back_exactly}
use Rattle.tempo_clock.proofs.laws.ticks_come_back.Goals as goal

pub returns-clause-at_least : goal.returns-clause-at_least
returns-clause-at_least c = ticks_come_back

pub returns-clause-exactly : goal.returns-clause-exactly
returns-clause-exactly c = ticks_come_back_exactly
