use Rattle.std.proofs.Common.{length}
use Rattle.seq_session.proofs.writing.+write_logs.Given as goal

abbrev pub decreases-write_logs : goal.decreases-write_logs
decreases-write_logs g l = length l.scripts.now
