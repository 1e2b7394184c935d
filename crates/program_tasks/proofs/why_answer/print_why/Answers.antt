use Rattle.std.proofs.Common.{subst, rules}
use Rattle.byte_io.specs.Moved.{Took}
use Rattle.program_tasks.proofs.why_answer.print_why.Goals as goal

pub returns-clause-printed : goal.returns-clause-printed
returns-clause-printed g c =
    let took : Took g.W.Sink.HasTaken c.args.out.now c.as_slice.result.now c.send.new.out = search rules in
    record {
      text = c.in_ok-text.text.items;
      told = c.in_ok-text.ensures.told;
      took = subst (λ text. Took g.W.Sink.HasTaken c.args.out.now text c.send.new.out) c.as_slice.ensures.value took;
    }
