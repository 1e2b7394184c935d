-- Each write adds what follows the place.
use Rattle.std.proofs.Common.{ap, refl, length, arith, rules}
use Rattle.byte_io.proofs.Moved.{took_none, written_more, written_all, written_part, written_stuck, not_eager}
use Rattle.memory.proofs.Outcomes.{on_err}
use Rattle.byte_io.proofs.transfer.write_all.Goals as goal

pub loop-at-init : goal.loop-at-init
loop-at-init g c = record {
  within = search rules;
  sound = search rules;
  eager = refl;
  idle = λ _. refl;
  written = took_none g.W.Sink.HasTaken _;
}

pub loop-at-preserved : goal.loop-at-preserved
loop-at-preserved g c = record {
  within = search rules;
  sound = search rules;
  eager = search rules;
  idle = λ none. absurd (omega (arith, none, c.loop-at-test.true));
  written = written_more g.W.Sink.HasTaken _ _ _ _ _ _ c.loop-at.invariant.written c.in_ok-n.ensures.took;
}

pub returns-in_err-n-clause-part : goal.returns-in_err-n-clause-part
returns-in_err-n-clause-part g c = on_err _ (written_part g.W.Sink.HasTaken _ _ _ _ _ _ c.loop-at.invariant.written c.in_err-n.ensures.unmoved refl c.loop-at-test.true)

pub returns-then-n-eq0-clause-part : goal.returns-then-n-eq0-clause-part
returns-then-n-eq0-clause-part g c =
    written_stuck g.W.Sink.HasTaken _ _ _ _ _ _ _ c.loop-at.invariant.written c.in_ok-n.ensures.took c.if-n-eq0.true c.loop-at-test.true

pub returns-clause-written : goal.returns-clause-written
returns-clause-written g c = written_all g.W.Sink.HasTaken _ _ _ _ c.loop-at.invariant.written c.loop-at-test.false

pub returns-then-n-eq0-clause-took_nothing : goal.returns-then-n-eq0-clause-took_nothing
returns-then-n-eq0-clause-took_nothing g c = λ _.
    not_eager _ _ _ _ _ c.loop-at.invariant.eager c.in_ok-n.ensures.some c.loop-at-test.true c.if-n-eq0.true

pub returns-clause-nothing : goal.returns-clause-nothing
returns-clause-nothing g c = λ none. (refl, c.loop-at.invariant.idle (ap length none))
