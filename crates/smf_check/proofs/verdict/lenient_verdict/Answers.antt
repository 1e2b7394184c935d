use Rattle.std.proofs.Common.{rules}
use Rattle.smf_check.proofs.verdict.lenient_verdict.Goals as goal

pub returns-in-Err : goal.returns-in-Err
returns-in-Err c = c.in-Err.ensures.refused (search rules)
