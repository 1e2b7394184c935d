use Rattle.std.proofs.Common.{inr}
use Rattle.std.proofs.lemmas.Result.{on_ok_weaker, on_err_weaker}
use Rattle.memory.proofs.Outcomes.{on_err}
use Rattle.lenient_text.proofs.Printed.{stopped-told, outcome-told, dumped, text-stops, lines-stop}
use Rattle.lenient_text.proofs.dumping.dump_all_leniently.Goals as goal

pub returns-in_err-print_all-clause-short : goal.returns-in_err-print_all-clause-short
returns-in_err-print_all-clause-short g c =
    let read = c.in_ok-mended.ensures.mended in
    on_err c.from_residual-in_err-print_all.result (inr (text-stops g.R.Source.HasLeft _ _ c.in_ok-mended.mended read c.in_ok-file.file c.in_ok-file.ensures.file g.W.Sink.HasTaken _ _ _ c.in_err-print_all.ensures.short))

pub returns-in_err-print_all-clause-told : goal.returns-in_err-print_all-clause-told
returns-in_err-print_all-clause-told g c = stopped-told g.R.Source.HasLeft _ _ c.in_ok-mended.mended c.in_ok-mended.ensures.mended c.from_residual-in_err-print_all.result c.in_err-print_all.field-0.0 c.from_residual-in_err-print_all.ensures.1 c.in_err-print_all.ensures.only

pub returns-clause-text : goal.returns-clause-text
returns-clause-text g c =
    let read = c.in_ok-mended.ensures.mended in
    on_ok_weaker c.print_forgiven.result (λ k. dumped g.R.Source.HasLeft _ _ c.in_ok-mended.mended read c.in_ok-file.file c.in_ok-file.ensures.file g.W.Sink.HasTaken _ _ _ _ c.in_ok-print_all.ensures.text k) c.print_forgiven.ensures.text

pub returns-clause-short : goal.returns-clause-short
returns-clause-short g c =
    let read = c.in_ok-mended.ensures.mended in
    on_err_weaker c.print_forgiven.result (λ k. inr (lines-stop g.R.Source.HasLeft _ _ c.in_ok-mended.mended read c.in_ok-file.file c.in_ok-file.ensures.file g.W.Sink.HasTaken _ _ _ _ c.in_ok-print_all.ensures.text k)) c.print_forgiven.ensures.short

pub returns-clause-told : goal.returns-clause-told
returns-clause-told g c = outcome-told g.R.Source.HasLeft _ _ c.in_ok-mended.mended c.in_ok-mended.ensures.mended c.print_forgiven.result c.print_forgiven.ensures.only
