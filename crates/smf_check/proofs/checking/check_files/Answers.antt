use Rattle.std.proofs.lemmas.Result.{on_err_weaker}
use Rattle.smf_check.proofs.Finished.{checked, if-ok-both, stops-at-end}
use Rattle.smf_check.proofs.checking.check_files.Goals as goal

pub returns-clause-checked : goal.returns-clause-checked
returns-clause-checked g c = if-ok-both c.finish.result
    (λ answer took says. checked g.W.Sink.HasTaken c.args.quiet _ _ c.new-report.ensures.quiet c.new-report.ensures.text c.new-report.ensures.tally _ _ _ _ _ answer c.in_ok-check_words.ensures.checked took says)
    c.finish.ensures.taken c.finish.ensures.answer

pub returns-clause-short : goal.returns-clause-short
returns-clause-short g c = on_err_weaker c.finish.result
    (λ took. stops-at-end g.W.Sink.HasTaken c.args.quiet _ _ c.new-report.ensures.quiet c.new-report.ensures.text c.new-report.ensures.tally _ _ _ _ _ _ c.in_ok-check_words.ensures.checked took)
    c.finish.ensures.short
