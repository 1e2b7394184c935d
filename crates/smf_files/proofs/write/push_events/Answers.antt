use Rattle.std.proofs.Common.{arith}
use Rattle.smf_files.proofs.Writing.{Follows, at-next, text-more}
use Rattle.smf_files.proofs.write.push_events.Goals as goal

pub overflow_cast-event : goal.overflow_cast-event
overflow_cast-event c =
    let next : Follows c.loop-event.before c.args.events.now c.loop-event.event-index c.event-item.result = at-next _ _ _ _ c.loop-event-test.true c.event-item.is c.loop-event.invariant.good in
    omega (arith, next.near)

pub push_quantity-requires : goal.push_quantity-requires
push_quantity-requires c =
    let next : Follows c.loop-event.before c.args.events.now c.loop-event.event-index c.event-item.result = at-next _ _ _ _ c.loop-event-test.true c.event-item.is c.loop-event.invariant.good in
    omega (arith, next.near)

pub loop-event-preserved : goal.loop-event-preserved
loop-event-preserved c =
    let next : Follows c.loop-event.before c.args.events.now c.loop-event.event-index c.event-item.result = at-next _ _ _ _ c.loop-event-test.true c.event-item.is c.loop-event.invariant.good in
    record {
      written = text-more _ _ _ _ _ _ _ _ c.in_ok-push_quantity.ensures c.in_ok-push_message.ensures next.text c.loop-event.invariant.written;
      good = next.rest;
    }
