use Rattle.std.proofs.Common.{length}
use Rattle.program_tasks.proofs.apart.+is_no_file.Given as goal

abbrev pub decreases-is_no_file : goal.decreases-is_no_file
decreases-is_no_file g l = length l.names.now
