use Rattle.tempo_clock.proofs.TickLaws.{nanos_are_least, nanos_rise}
use Rattle.tempo_clock.proofs.laws.ticks_come_in_order.Goals as goal

pub returns-clause-least : goal.returns-clause-least
returns-clause-least c = nanos_are_least

pub returns-clause-rise : goal.returns-clause-rise
returns-clause-rise c = nanos_rise
