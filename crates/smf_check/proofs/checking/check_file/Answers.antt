use Rattle.std.proofs.lemmas.Result.{on_err_weaker}
use Rattle.memory.proofs.Outcomes.{on_err}
use Rattle.smf_check.proofs.Reported.{first-none, stops-at-once, stops-at-one}
use Rattle.smf_check.proofs.checking.check_file.Goals as goal

pub returns-in_err-verdict-clause-short : goal.returns-in_err-verdict-clause-short
returns-in_err-verdict-clause-short g c = on_err c.from_residual.result (stops-at-once g.W.Sink.HasTaken _ _ _ _ (first-none _))

pub returns-clause-short : goal.returns-clause-short
returns-clause-short g c = on_err_weaker c.add.result (λ k. stops-at-one g.W.Sink.HasTaken _ _ _ _ _ _ c.in_ok-verdict.ensures k) c.add.ensures.short
