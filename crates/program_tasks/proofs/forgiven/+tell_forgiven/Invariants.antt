use Rattle.std.proofs.Common.{length}
use Rattle.program_tasks.proofs.forgiven.+tell_forgiven.Given as goal

abbrev pub decreases-tell_forgiven : goal.decreases-tell_forgiven
decreases-tell_forgiven g l = length l.names.now
