use Rattle.std.proofs.Common.{length}
use Rattle.program_tasks.proofs.folder.+tell_unplayable.Given as goal

abbrev pub decreases-tell_unplayable : goal.decreases-tell_unplayable
decreases-tell_unplayable g l = length l.files.now
