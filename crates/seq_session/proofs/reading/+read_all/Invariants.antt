use Rattle.std.proofs.Common.{length}
use Rattle.seq_session.proofs.reading.+read_all.Given as goal

abbrev pub decreases-read_all : goal.decreases-read_all
decreases-read_all g l = length l.sources.now
