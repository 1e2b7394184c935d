use Rattle.std.proofs.Common.{◌∙◌, ◌+◌, ◌-◌, List, ℕ, ap}
use Rattle.std.specs.Prelude.{replicate}
use Rattle.script_text.proofs.Gathered.{after}
use Rattle.smf_make.specs.SaidEvents.{numbers_said}
use Rattle.script_text.specs.Words.{words}
use Rattle.smf_make.proofs.NumberRuns.{each-cut, each-bad, each-more, up-to-within}
use Rattle.smf_make.proofs.numbers.each_number.Goals as goal

pub returns-in_default-clause-err : goal.returns-in_default-clause-err
returns-in_default-clause-err c = λ _. each-cut c.args.count c.loop-i._i c.loop-i-test.true c.loop-i.bytes.items (words c.loop-i.left.now) _ c.loop-i.invariant.rest c.in_default.ensures.none

pub returns-in_default-up_to-clause-err : goal.returns-in_default-up_to-clause-err
returns-in_default-up_to-clause-err c = λ _. each-bad c.args.count c.loop-i._i c.loop-i-test.true c.loop-i.bytes.items (words c.loop-i.left.now) _ c.loop-i.invariant.rest _ _ c.in-Some.ensures.some c.in_default-up_to.ensures

pub loop-i-preserved : goal.loop-i-preserved
loop-i-preserved c = record {
  rest = ap (λ (xs : List ℕ). after xs (numbers_said (replicate (c.args.count - (c.loop-i._i + 1)) 1) (words c.in-Some.rest.now))) c.in_ok-push.ensures.items
      ∙ each-more c.args.count c.loop-i._i c.loop-i-test.true c.loop-i.bytes.items (words c.loop-i.left.now) _ c.loop-i.invariant.rest c.in-Some.word.now (words c.in-Some.rest.now) c.in-Some.ensures.some c.in-Some-up_to.byte c.in-Some-up_to.ensures (up-to-within 255 c.in-Some-up_to.byte c.in-Some.word.now c.in-Some-up_to.ensures);
}
