use Rattle.std.proofs.Common.{length}
use Rattle.seq_session.proofs.source.+logs_are_open.Given as goal

abbrev pub decreases-logs_are_open : goal.decreases-logs_are_open
decreases-logs_are_open g l = length l.logs.now
