use Rattle.memory.proofs.Outcomes.{on_err}
use Rattle.smf_check.proofs.Reported.{first-none, stops-at-once}
use Rattle.smf_check.proofs.checking.check_name.Goals as goal

pub returns-in_err-path-clause-short : goal.returns-in_err-path-clause-short
returns-in_err-path-clause-short g c = on_err c.from_residual.result (stops-at-once g.W.Sink.HasTaken _ _ _ _ (first-none _))
