use Rattle.std.proofs.Common.{length}
use Rattle.program_tasks.proofs.why_question.+first_line_named.Given as goal

abbrev pub decreases-first_line_named : goal.decreases-first_line_named
decreases-first_line_named l = length l.scripts.now
