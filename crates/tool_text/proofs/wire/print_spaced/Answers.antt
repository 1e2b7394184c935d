use Rattle.std.proofs.Common.{◌∙◌, refl, arith}
use Rattle.std.proofs.lemmas.List.{nil_from_length}
use Rattle.std.specs.Slice.Iter.{chunks_rest}
use Rattle.memory.proofs.Outcomes.{on_err}
use Rattle.tool_text.proofs.Pieces.{goes-stops, goes-part, goes-last, stops-part}
use Rattle.tool_text.proofs.wire.print_spaced.Goals as goal

pub returns-in_err-push_spaced-clause-short : goal.returns-in_err-push_spaced-clause-short
returns-in_err-push_spaced-clause-short g c = on_err c.from_residual.result (goes-stops g.W.Sink.HasTaken _ _ _ _ _ c.loop-part.invariant.goes)

pub returns-in_err-spill-clause-short : goal.returns-in_err-spill-clause-short
returns-in_err-spill-clause-short g c = on_err c.from_residual-in_err-spill.result
    (stops-part g.W.Sink.HasTaken _ _ _ _ _ _ _ _ _ c.in-Some.ensures.steps.1.0 c.loop-part.invariant.goes c.in_ok-push_spaced.ensures.ok c.in_err-spill.ensures.short)

pub loop-part-preserved : goal.loop-part-preserved
loop-part-preserved g c =
    let was = c.loop-part.invariant in
    let kept = c.in-Some.ensures.steps.0 ∙ was.size in
    record {
      can_next = omega (arith, kept);
      finite = tt;
      size = kept;
      goes = goes-part g.W.Sink.HasTaken _ _ _ _ _ _ _ _ _ _ c.in-Some.ensures.steps.1.0 was.goes c.in_ok-push_spaced.ensures.ok c.in_ok-spill.ensures.sent;
      unmarked = c.in_ok-spill.ensures.marks.unmarked refl;
      eager = c.spill.ensures.marks.eager ∙ was.eager;
    }

pub returns-clause-sent : goal.returns-clause-sent
returns-clause-sent g c = goes-last g.W.Sink.HasTaken _ _ _ _ _ (nil_from_length (chunks_rest c.loop-part.part-iterator) c.in-None.ensures.steps.1.0) c.loop-part.invariant.goes
