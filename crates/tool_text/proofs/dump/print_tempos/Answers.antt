use Rattle.std.proofs.Common.{◌∙◌, refl}
use Rattle.memory.proofs.Outcomes.{on_err}
use Rattle.tool_text.specs.Dump.{tempo_line}
use Rattle.tool_text.proofs.Pieces.{goes-line, stops-line, goes-stops}
use Rattle.tool_text.proofs.dump.print_tempos.Goals as goal

pub returns-in_err-push_tempo-clause-short : goal.returns-in_err-push_tempo-clause-short
returns-in_err-push_tempo-clause-short g c = on_err c.from_residual.result (goes-stops g.W.Sink.HasTaken _ _ _ _ _ c.loop-entry.invariant.goes)

pub returns-in_err-spill-clause-short : goal.returns-in_err-spill-clause-short
returns-in_err-spill-clause-short g c = on_err c.from_residual-in_err-spill.result
    (stops-line g.W.Sink.HasTaken tempo_line _ _ _ _ _ _ _ _ _ c.loop-entry-test.true c.loop-entry.invariant.goes c.in_ok-push_tempo.ensures c.in_err-spill.ensures.short)

pub loop-entry-preserved : goal.loop-entry-preserved
loop-entry-preserved g c = record {
  goes = goes-line g.W.Sink.HasTaken tempo_line _ _ _ _ _ _ _ _ _ _ c.loop-entry-test.true c.loop-entry.invariant.goes c.in_ok-push_tempo.ensures c.in_ok-spill.ensures.sent;
  unmarked = c.in_ok-spill.ensures.marks.unmarked refl;
  eager = c.spill.ensures.marks.eager ∙ c.loop-entry.invariant.eager;
}
