use Rattle.std.proofs.Common.{length}
use Rattle.seq_session.proofs.streaming.+clear_all.Given as goal

abbrev pub decreases-clear_all : goal.decreases-clear_all
decreases-clear_all l = length l.texts.now
