use Rattle.seq_state.specs.Effect.{public}
use Rattle.seq_clients.proofs.Requeued.{requeued, taken-none}
use Rattle.seq_clients.proofs.clients.Clients.share.Goals as goal

pub returns-in-Some : goal.returns-in-Some
returns-in-Some c =
    requeued c.args.self.now c.args.client c.args.queue public _ _ _ _
    c.in-Some.ensures.value c.in-Some.ensures.left c.share.ensures c.put_queue.ensures

pub returns-in_default : goal.returns-in_default
returns-in_default c = taken-none c.args.self.now c.args.client c.args.queue public _ c.in_default.ensures.value c.in_default.ensures.left
