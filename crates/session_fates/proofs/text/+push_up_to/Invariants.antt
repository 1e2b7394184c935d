use Rattle.std.proofs.Common.{length}
use Rattle.session_fates.proofs.text.+push_up_to.Given as goal

abbrev pub decreases-push_up_to : goal.decreases-push_up_to
decreases-push_up_to l = length l.nodes.now
