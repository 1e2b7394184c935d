use Rattle.memory.proofs.Outcomes.{on_ok}
use Rattle.session_live.proofs.answers.wait.Goals as goal

pub returns-clause-counts : goal.returns-clause-counts
returns-clause-counts g c = λ h a. on_ok c.end.result (c.in_ok-count.ensures.counts h a)
