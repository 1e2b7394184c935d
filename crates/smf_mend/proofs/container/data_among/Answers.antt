use Rattle.std.proofs.Common.{◌+◌, ◌-◌, ◌∙◌, ap, sym, arith}
use Rattle.std.specs.Prelude.{Some}
use Rattle.smf_mend.specs.Containers.{data_among}
use Rattle.smf_mend.proofs.Contained.{data-ends, data-stops, data-here, data-later}
use Rattle.smf_mend.proofs.container.data_among.Goals as goal

pub returns-in-None : goal.returns-in-None
returns-in-None c = sym c.loop-turn.invariant.same ∙ data-stops (c.args.most - c.loop-turn._turn) c.loop-turn.left.now (omega (arith, c.loop-turn-test.true)) c.in-None.ensures.none

pub returns-then-is_data_chunk : goal.returns-then-is_data_chunk
returns-then-is_data_chunk c =
    sym c.loop-turn.invariant.same
    ∙ data-here (c.args.most - c.loop-turn._turn) c.loop-turn.left.now (omega (arith, c.loop-turn-test.true)) c.in-Some.ensures.there (sym c.is_data_chunk.ensures ∙ c.if-is_data_chunk.true)
    ∙ ap Some (sym c.in-Some.ensures.content)

pub loop-turn-preserved : goal.loop-turn-preserved
loop-turn-preserved c = record {
  same =
      ap (data_among (c.args.most - (c.loop-turn._turn + 1))) c.in-Some.ensures.rest
      ∙ sym (data-later (c.args.most - c.loop-turn._turn) (c.args.most - (c.loop-turn._turn + 1)) c.loop-turn.left.now (omega (arith, c.loop-turn-test.true)) (omega arith) c.in-Some.ensures.there (sym c.is_data_chunk.ensures ∙ c.if-is_data_chunk.false))
      ∙ c.loop-turn.invariant.same;
}

pub returns : goal.returns
returns c = sym c.loop-turn.invariant.same ∙ data-ends (c.args.most - c.loop-turn._turn) c.loop-turn.left.now (omega (arith, c.loop-turn-test.false))
