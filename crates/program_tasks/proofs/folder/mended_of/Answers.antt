use Rattle.std.proofs.Common.{rules}
use Rattle.program_tasks.proofs.folder.mended_of.Goals as goal

pub returns-in-Err : goal.returns-in-Err
returns-in-Err c = c.in-Err.ensures.refused (search rules)
