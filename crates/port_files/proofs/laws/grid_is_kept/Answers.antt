use Rattle.port_files.proofs.Grid.{keeps-events, keeps-ticks}
use Rattle.port_files.proofs.Tempos.{keeps-tempos}
use Rattle.port_files.proofs.laws.grid_is_kept.Goals as goal

pub returns-clause-events : goal.returns-clause-events
returns-clause-events c = keeps-events

pub returns-clause-ticks : goal.returns-clause-ticks
returns-clause-ticks c = keeps-ticks

pub returns-clause-tempos : goal.returns-clause-tempos
returns-clause-tempos c = keeps-tempos
