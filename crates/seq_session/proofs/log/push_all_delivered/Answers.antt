use Rattle.seq_session.proofs.Seats.{tell_none, tell_next_delivery}
use Rattle.seq_session.proofs.log.push_all_delivered.Goals as goal

pub loop-delivery-init : goal.loop-delivery-init
loop-delivery-init c = tell_none _ _ _

pub loop-delivery-preserved : goal.loop-delivery-preserved
loop-delivery-preserved c =
    tell_next_delivery _ _ c.args.delivered.now c.loop-delivery.delivery-index c.delivery-item.result _ _ _ c.loop-delivery-test.true c.delivery-item.is c.loop-delivery.invariant c.in_ok-push_delivered.ensures
