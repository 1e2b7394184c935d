use Rattle.std.proofs.Common.{◌∙◌, refl, arith, sym, subst}
use Rattle.std.specs.Prelude.{IsTrue}
use Rattle.memory.proofs.Outcomes.{on_err}
use Rattle.smf_grammar.specs.Seen.{pair_seen, IsRunning}
use Rattle.smf_grammar.proofs.Sound.{sound-running}
use Rattle.smf_files.specs.Playing.{is_whole}
use Rattle.smf_files.proofs.Places.{whole-fault, whole-more}
use Rattle.tool_text.proofs.Pieces.{goes-stops}
use Rattle.smf_text.proofs.Walked.{goes-next, goes-end, stops-next}
use Rattle.smf_text.proofs.walk.print_pairs.Goals as goal

pub unreachable-requires : goal.unreachable-requires
unreachable-requires g c = whole-fault _ _ _ c.pairs.invariant.whole c.in-Err.ensures.value

pub returns-in_err-push_placed_line-clause-short : goal.returns-in_err-push_placed_line-clause-short
returns-in_err-push_placed_line-clause-short g c = on_err c.from_residual.result (goes-stops g.W.Sink.HasTaken _ _ _ _ _ c.pairs.invariant.goes)

pub returns-in_err-spill-clause-short : goal.returns-in_err-spill-clause-short
returns-in_err-spill-clause-short g c = on_err c.from_residual-in_err-spill.result
    (stops-next g.W.Sink.HasTaken c.args.is_placed c.args.end c.pairs.running c.pairs.left.now _ (pair_seen c.in-Ok.found.0) c.pairs.tick _ _ _ _ _ _ c.pairs.invariant.whole c.in-Ok.ensures.value c.pairs.invariant.goes c.in_ok-push_placed_line.ensures c.in_err-spill.ensures.short)

pub returns-then-is_end-clause-sent : goal.returns-then-is_end-clause-sent
returns-then-is_end-clause-sent g c =
    goes-end g.W.Sink.HasTaken c.args.is_placed c.args.end c.pairs.running c.pairs.left.now _ (pair_seen c.in-Ok.found.0) c.pairs.tick _ _ _ _ _ _ _ c.in-Ok.ensures.value (sym c.is_end.ensures ∙ c.if-is_end.true) c.pairs.invariant.goes c.in_ok-push_placed_line.ensures c.in_ok-spill.ensures.sent

pub pairs-preserved : goal.pairs-preserved
pairs-preserved g c = record {
  goes = goes-next g.W.Sink.HasTaken c.args.is_placed c.args.end c.pairs.running c.status_after-running.result c.pairs.left.now _ (pair_seen c.in-Ok.found.0) c.pairs.tick _ _ _ _ _ _ _ c.pairs.invariant.whole c.in-Ok.ensures.value (sym c.is_end.ensures ∙ c.if-is_end.false) c.status_after-running.ensures c.pairs.invariant.goes c.in_ok-push_placed_line.ensures c.in_ok-spill.ensures.sent;
  whole = subst (λ o. IsTrue (is_whole o c.in-Ok.found.1.now)) (sym c.status_after-running.ensures) (whole-more c.pairs.running c.pairs.left.now c.in-Ok.found.1.now (pair_seen c.in-Ok.found.0) c.pairs.invariant.whole c.in-Ok.ensures.value (sym c.is_end.ensures ∙ c.if-is_end.false)).whole;
  status = subst IsRunning (sym c.status_after-running.ensures) (sound-running _ c.in-Ok.ensures.sound);
  within = omega (arith, c.in-Ok.ensures.shorter);
  early = omega (arith, c.in-Ok.ensures.shorter, c.in-Ok.ensures.small);
  unmarked = c.in_ok-spill.ensures.marks.unmarked refl;
  eager = c.spill.ensures.marks.eager ∙ c.pairs.invariant.eager;
}
