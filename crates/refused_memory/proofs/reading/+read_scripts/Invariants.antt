use Rattle.std.proofs.Common.{length}
use Rattle.refused_memory.proofs.reading.+read_scripts.Given as goal

abbrev pub decreases-read_scripts : goal.decreases-read_scripts
decreases-read_scripts g l = length l.words.now
