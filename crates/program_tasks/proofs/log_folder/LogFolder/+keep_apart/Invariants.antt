use Rattle.std.proofs.Common.{length}
use Rattle.program_tasks.proofs.log_folder.LogFolder.+keep_apart.Given as goal

abbrev pub decreases-keep_apart : goal.decreases-keep_apart
decreases-keep_apart g l = length l.words.now
