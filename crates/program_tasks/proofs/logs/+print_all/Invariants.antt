use Rattle.std.proofs.Common.{length}
use Rattle.program_tasks.proofs.logs.+print_all.Given as goal

abbrev pub decreases-print_all : goal.decreases-print_all
decreases-print_all g l = length l.scripts.now
