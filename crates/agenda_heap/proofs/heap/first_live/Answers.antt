use Rattle.std.proofs.Common.{◌≡◌, ◌≤◌, ◌++◌, true, false, arith}
use Rattle.agenda_heap.proofs.StoredLemmas.{first_is_due, stale_goes, lengths_gain}
use Rattle.agenda_heap.proofs.heap.first_live.Goals as goal

pub returns-then-has-clause-some : goal.returns-then-has-clause-some
returns-then-has-clause-some c =
    let here : c.in-Some.least.key.moment ≤ c.in-Some.least.key.moment = omega arith in (
      c.in-Some.least.cell,
      first_is_due c.args.table.now (c.loop-least.ascending.items ++ c.loop-least.heap.items) (record { 0 = c.in-Some.least }) c.in-Some.least.key.moment c.loop-least.invariant.held c.in-Some.ensures.least (c.has.ensures.0 c.if-has.true) here,
    )

pub loop-least-smaller : goal.loop-least-smaller
loop-least-smaller c =
    let less = lengths_gain c.drop_first.new.ascending.items c.drop_first.new.heap.items c.loop-least.ascending.items c.loop-least.heap.items _ _ c.drop_first.ensures.popped in
    omega arith

pub loop-least-preserved : goal.loop-least-preserved
loop-least-preserved c =
    let less = lengths_gain c.drop_first.new.ascending.items c.drop_first.new.heap.items c.loop-least.ascending.items c.loop-least.heap.items _ _ c.drop_first.ensures.popped in
    let stale : c.has.result ≡ false = c.if-has.false in
    record {
      ascends = c.drop_first.ensures.ascends;
      order = c.drop_first.ensures.order;
      held = stale_goes c.args.table.now (c.loop-least.ascending.items ++ c.loop-least.heap.items) (c.drop_first.new.ascending.items ++ c.drop_first.new.heap.items) (record { 0 = c.in-Some.least }) c.loop-least.invariant.held c.drop_first.ensures.popped
          (λ live. let yes' : c.has.result ≡ true = c.has.ensures.1 live in cc);
      few = omega (arith, c.loop-least.invariant.few);
    }
