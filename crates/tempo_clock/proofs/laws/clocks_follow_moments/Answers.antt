use Rattle.tempo_clock.proofs.ClockLaws.{clocks_begin, clocks_go_on}
use Rattle.tempo_clock.proofs.laws.clocks_follow_moments.Goals as goal

pub returns-clause-begin : goal.returns-clause-begin
returns-clause-begin c = clocks_begin

pub returns-clause-go_on : goal.returns-clause-go_on
returns-clause-go_on c = clocks_go_on
