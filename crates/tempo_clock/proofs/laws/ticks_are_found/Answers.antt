use Rattle.tempo_clock.proofs.TickLaws.{ticks_are_last, ticks_are_first, ticks_all_before}
use Rattle.tempo_clock.proofs.laws.ticks_are_found.Goals as goal

pub returns-clause-last : goal.returns-clause-last
returns-clause-last c = ticks_are_last

pub returns-clause-first : goal.returns-clause-first
returns-clause-first c = ticks_are_first

pub returns-clause-none : goal.returns-clause-none
returns-clause-none c = ticks_all_before
