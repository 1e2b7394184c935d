use Rattle.std.proofs.Common.{length}
use Rattle.seq_session.proofs.diagnosing.+push_all_skipped.Given as goal

abbrev pub decreases-push_all_skipped : goal.decreases-push_all_skipped
decreases-push_all_skipped l = length l.scripts.now
