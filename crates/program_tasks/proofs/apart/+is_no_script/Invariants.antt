use Rattle.std.proofs.Common.{length}
use Rattle.program_tasks.proofs.apart.+is_no_script.Given as goal

abbrev pub decreases-is_no_script : goal.decreases-is_no_script
decreases-is_no_script g l = length l.scripts.now
