use Rattle.std.proofs.Common.{sym}
use Rattle.std.proofs.lemmas.Result.{on_ok_weaker, on_err_weaker}
use Rattle.tempo_clock.specs.Clocks.{with_tempo}
use Rattle.seq_state.specs.Effect.{with_clock}
use Rattle.seq_clients.proofs.Requeued.{requeued, requeued-same, taken-none}
use Rattle.seq_clients.proofs.clients.Clients.set_tempo.Goals as goal

pub set_tempo-set-requires-clause-metrical : goal.set_tempo-set-requires-clause-metrical
set_tempo-set-requires-clause-metrical c = c.requires.metrical _ (sym c.in-Some.ensures.value)

pub returns-in_default-clause-ok : goal.returns-in_default-clause-ok
returns-in_default-clause-ok c = taken-none c.args.self.now c.args.client c.args.queue (with_clock (λ k. with_tempo k c.args.moment c.args.tempo)) _ c.in_default.ensures.value c.in_default.ensures.left

pub returns-clause-ok : goal.returns-clause-ok
returns-clause-ok c =
    on_ok_weaker c.set_tempo-set.result
    (λ e. requeued c.args.self.now c.args.client c.args.queue (with_clock (λ k. with_tempo k c.args.moment c.args.tempo)) _ _ _ _
    c.in-Some.ensures.value c.in-Some.ensures.left e c.put_queue.ensures) c.set_tempo-set.ensures.ok

pub returns-clause-err : goal.returns-clause-err
returns-clause-err c =
    on_err_weaker c.set_tempo-set.result
    (λ e. requeued-same c.args.self.now c.args.client c.args.queue (λ q. q) _ _ _ _
    c.in-Some.ensures.value c.in-Some.ensures.left e c.put_queue.ensures) c.set_tempo-set.ensures.err
