use Rattle.smf_files.proofs.Divisions.{division-ticks}
use Rattle.smf_files.proofs.Increasing.{events-rise}
use Rattle.smf_files.proofs.file.SmfFile.plays_in_order.Goals as goal

pub returns-clause-ticks : goal.returns-clause-ticks
returns-clause-ticks c = rw (← c.self.view_is) (division-ticks _ _ c.self.invariant.division)

pub returns-clause-rising : goal.returns-clause-rising
returns-clause-rising c = events-rise c.args.self.now
