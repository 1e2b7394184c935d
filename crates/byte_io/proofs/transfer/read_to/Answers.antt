-- Each read adds what the device gave.
use Rattle.std.proofs.Common.{◌≤◌, ◌+◌, ◌∙◌, length, arith, rules}
use Rattle.std.proofs.lemmas.List.{length-take}
use Rattle.byte_io.proofs.Moved.{gave_none, gave_more, read_more, read_failed, read_few, all_read, end_read, gave_some}
use Rattle.memory.proofs.Outcomes.{on_err}
use Rattle.byte_io.proofs.transfer.read_to.Goals as goal
use Rattle.byte_io.proofs.transfer.read_to.Goals.{else-loop-chunk-test, then-loop-chunk-test+in_ok-n+then-n-eq0}

pub loop-chunk-init : goal.loop-chunk-init
loop-chunk-init g c = record {
  within = search rules;
  sound = search rules;
  gave = gave_none g.R.Source.HasLeft _ _ c.new-all.ensures.items;
  space = search rules;
}

pub loop-chunk-preserved : goal.loop-chunk-preserved
loop-chunk-preserved g c =
    let few : length c.loop-chunk.all.items + c.in_ok-n.n ≤ c.args.most = omega (arith, length-take c.min-window.result c.loop-chunk.chunk, c.in_ok-n.ensures.within) in
    record {
      within = rw c.in_ok-extend_from_slice.ensures.items (read_few _ _ _ _ few);
      sound = c.in_ok-n.ensures.unmarked ∙ c.loop-chunk.invariant.sound;
      gave = read_more g.R.Source.HasLeft _ _ _ _ _ _ _ _ c.loop-chunk.invariant.gave c.in_ok-n.ensures.gave (omega (arith, c.in_ok-n.ensures.within)) c.in_ok-extend_from_slice.ensures.items;
      space = search rules;
    }

pub returns-in_err-n-clause-lost : goal.returns-in_err-n-clause-lost
returns-in_err-n-clause-lost g c =
    on_err _ (gave_some g.R.Source.HasLeft _ _ _ _ (read_failed g.R.Source.HasLeft _ _ _ _ c.loop-chunk.invariant.gave c.in_err-n.ensures.unmoved) c.loop-chunk.invariant.within)

pub returns-in_err-extend_from_slice-clause-lost : goal.returns-in_err-extend_from_slice-clause-lost
returns-in_err-extend_from_slice-clause-lost g c =
    let few : length c.loop-chunk.all.items + c.in_ok-n.n ≤ c.args.most = omega (arith, length-take c.min-window.result c.loop-chunk.chunk, c.in_ok-n.ensures.within) in
    on_err _ (gave_some g.R.Source.HasLeft _ _ _ _ (gave_more g.R.Source.HasLeft _ _ _ _ _ c.loop-chunk.invariant.gave c.in_ok-n.ensures.gave) (read_few _ _ _ _ few))

pub returns-clause-bytes : goal.returns-clause-bytes
returns-clause-bytes g c = elim c.loop-chunk-test.branch [
  | else-loop-chunk-test w ↦ all_read g.R.Source.HasLeft _ _ _ _ _ w.input-is c.loop-chunk.invariant.gave (omega (arith, c.loop-chunk.invariant.within))
  | then-loop-chunk-test+in_ok-n+then-n-eq0 w ↦ end_read g.R.Source.HasLeft _ _ _ _ _ _ _ _ w.input-is c.loop-chunk.invariant.gave w.in_ok-n.ensures.gave w.if-n-eq0.true
      (w.in_ok-n.ensures.ended w.if-n-eq0.true (omega (arith, length-take w.min-window.result c.loop-chunk.chunk, c.loop-chunk.invariant.space))) c.loop-chunk.invariant.within
]
