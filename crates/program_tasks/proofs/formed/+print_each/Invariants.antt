use Rattle.std.proofs.Common.{length}
use Rattle.program_tasks.proofs.formed.+print_each.Given as goal

abbrev pub decreases-print_each : goal.decreases-print_each
decreases-print_each g l = length l.scripts.now
