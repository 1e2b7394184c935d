use Rattle.std.proofs.Common.{◌∙◌, [], inr, refl, arith, rules}
use Rattle.std.proofs.lemmas.List.{length-take}
use Rattle.memory.proofs.Outcomes.{on_err}
use Rattle.tool_text.proofs.Passed.{passed_more, all_passed, stops, so_far, stops_within, gave_few, gave_too_many, lines_kept}
use Rattle.tool_text.proofs.printing.print_stream.Goals as goal

pub returns-in-Err-clause-short : goal.returns-in-Err-clause-short
returns-in-Err-clause-short g c = stops g.R.Source.HasLeft g.W.Sink.HasTaken _ _ _ _ _ _ _ _ c.pieces.invariant.passed [] c.in-Err.ensures.unmoved

pub returns-in-Err-clause-prompt : goal.returns-in-Err-clause-prompt
returns-in-Err-clause-prompt g c = λ _ _. so_far g.R.Source.HasLeft g.W.Sink.HasTaken _ _ _ _ _ _ _ _ c.pieces.invariant.passed c.in-Err.ensures.unmoved

pub returns-then-n-eq0-clause-passed : goal.returns-then-n-eq0-clause-passed
returns-then-n-eq0-clause-passed g c =
    all_passed g.R.Source.HasLeft g.W.Sink.HasTaken _ _ _ _ _ _ _ _ c.pieces.invariant.passed _ _ c.in-Ok.ensures.gave c.if-n-eq0.true
    (c.in-Ok.ensures.ended c.if-n-eq0.true (omega (arith, length-take c.min-window.result c.pieces.chunk, c.pieces.invariant.space)))

pub returns-then-n-room-clause-short : goal.returns-then-n-room-clause-short
returns-then-n-room-clause-short g c = stops g.R.Source.HasLeft g.W.Sink.HasTaken _ _ _ _ _ _ _ _ c.pieces.invariant.passed _ c.in-Ok.ensures.gave

pub returns-then-n-room-clause-bounded : goal.returns-then-n-room-clause-bounded
returns-then-n-room-clause-bounded g c =
    gave_few g.R.Source.HasLeft g.W.Sink.HasTaken _ _ _ _ _ _ _ _ c.pieces.invariant.passed _ _ c.in-Ok.ensures.gave (omega (arith, length-take c.min-window.result c.pieces.chunk, c.in-Ok.ensures.within))

pub returns-then-n-room-clause-read : goal.returns-then-n-room-clause-read
returns-then-n-room-clause-read g c = λ _. inr
    (gave_too_many g.R.Source.HasLeft g.W.Sink.HasTaken _ _ _ _ _ _ _ _ c.pieces.invariant.passed _ _ c.in-Ok.ensures.gave (omega (arith, c.in-Ok.ensures.within))
    (omega (arith, length-take c.min-window.result c.pieces.chunk, c.in-Ok.ensures.within)))

pub returns-in_err-take-clause-short : goal.returns-in_err-take-clause-short
returns-in_err-take-clause-short g c = on_err c.from_residual.result (stops g.R.Source.HasLeft g.W.Sink.HasTaken _ _ _ _ _ _ _ _ c.pieces.invariant.passed _ c.in-Ok.ensures.gave)

pub returns-in_err-take-clause-bounded : goal.returns-in_err-take-clause-bounded
returns-in_err-take-clause-bounded g c = gave_few g.R.Source.HasLeft g.W.Sink.HasTaken _ _ _ _ _ _ _ _ c.pieces.invariant.passed _ _ c.in-Ok.ensures.gave (omega arith)

pub returns-in_err-flush-clause-short : goal.returns-in_err-flush-clause-short
returns-in_err-flush-clause-short g c = on_err c.from_residual-in_err-flush.result
    (stops_within g.R.Source.HasLeft g.W.Sink.HasTaken _ _ _ _ _ _ _ _ c.pieces.invariant.passed _ _ _ _ _ (lines_kept _ _ _ _ _ c.pieces.invariant.same c.in_ok-take.ensures.text) (omega (arith, c.in-Ok.ensures.within)) c.in-Ok.ensures.gave c.in_err-flush.ensures.short)

pub returns-in_err-flush-clause-bounded : goal.returns-in_err-flush-clause-bounded
returns-in_err-flush-clause-bounded g c = gave_few g.R.Source.HasLeft g.W.Sink.HasTaken _ _ _ _ _ _ _ _ c.pieces.invariant.passed _ _ c.in-Ok.ensures.gave (omega arith)

pub pieces-preserved : goal.pieces-preserved
pieces-preserved g c = record {
  input_sound = search rules;
  out_sound = c.in_ok-flush.ensures.marks.unmarked refl;
  eager = c.flush.ensures.marks.eager ∙ c.pieces.invariant.eager;
  space = search rules;
  empty = search rules;
  same = c.in_ok-take.ensures.same ∙ c.pieces.invariant.same;
  passed =
      passed_more g.R.Source.HasLeft g.W.Sink.HasTaken _ _ _ _ _ _ _ _ c.pieces.invariant.passed _ _ _ _ _ _ c.in_ok-take.ensures.fed (lines_kept _ _ _ _ _ c.pieces.invariant.same c.in_ok-take.ensures.text)
      (omega (arith, c.in-Ok.ensures.within)) (omega arith) c.in-Ok.ensures.gave c.in_ok-flush.ensures.sent;
}
