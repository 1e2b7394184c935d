use Rattle.std.proofs.Common.{sym}
use Rattle.tempo_clock.specs.Clocks.{at_rest}
use Rattle.seq_state.specs.Effect.{with_clock}
use Rattle.seq_clients.proofs.Requeued.{requeued, taken-none}
use Rattle.seq_clients.proofs.clients.Clients.stop.Goals as goal

pub stop-requires : goal.stop-requires
stop-requires c = c.requires.running _ (sym c.in-Some.ensures.value)

pub returns-in-Some : goal.returns-in-Some
returns-in-Some c =
    requeued c.args.self.now c.args.client c.args.queue (with_clock (λ k. at_rest k c.args.moment)) _ _ _ _
    c.in-Some.ensures.value c.in-Some.ensures.left c.stop.ensures c.put_queue.ensures

pub returns-in_default : goal.returns-in_default
returns-in_default c = taken-none c.args.self.now c.args.client c.args.queue (with_clock (λ k. at_rest k c.args.moment)) _ c.in_default.ensures.value c.in_default.ensures.left
