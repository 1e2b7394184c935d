use Rattle.std.proofs.Common.{◌<◌, length, ◌∙◌, arith}
use Rattle.std.proofs.lemmas.List.{nil_from_length}
use Rattle.std.specs.Slice.Iter.{chunks_rest}
use Rattle.tool_text.proofs.OnTheWay.{goes-on, arrives}
use Rattle.tool_text.proofs.thru.pass_on.Goals as goal

pub loop-part-preserved : goal.loop-part-preserved
loop-part-preserved g c =
    let steps = c.in-Some.ensures.steps in
    let kept = steps.0 ∙ c.loop-part.invariant.size in
    let some : 0 < length c.in-Some.part.now = omega (arith, steps.1.1, steps.1.2, c.loop-part.invariant.size) in
    record {
      can_next = omega (arith, kept);
      finite = tt;
      size = kept;
      way =
          goes-on _ c.loop-part.engine _ _ _ c.in-Some.part.now _ _ _ _ c.loop-part.invariant.way steps.1.0 some c.in_ok-pass_part.ensures.passing c.in_ok-pass_part.ensures.counted
          c.in_ok-pass_part.ensures.text c.in_ok-pass_part.ensures.stream;
    }

pub returns-clause-text : goal.returns-clause-text
returns-clause-text g c = arrives _ _ _ _ _ _ c.loop-part.invariant.way (nil_from_length (chunks_rest c.loop-part.part-iterator) c.in-None.ensures.steps.1.0)
