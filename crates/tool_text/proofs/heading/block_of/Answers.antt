use Rattle.std.proofs.Common.{length, take, ap, ◌∙◌, arith}
use Rattle.std.proofs.lemmas.List.{length-take-le, take-take}
use Rattle.tool_text.proofs.heading.block_of.Goals as goal

pub returns-in-Some-clause-some : goal.returns-in-Some-clause-some
returns-in-Some-clause-some c =
    let same = c.in-Some.ensures.cases.same in
    let whole = ap length same ∙ length-take-le 32 c.args.bytes.now c.in-Some.ensures.cases.enough in
    record {
      whole = whole;
      roomy = record {
        front = ap (take c.args.len) same ∙ take-take c.args.len 32 c.args.bytes.now (omega arith);
        room = omega (arith, whole);
      };
    }
