use Rattle.std.proofs.Common.{sym}
use Rattle.tempo_clock.specs.Clocks.{running_on}
use Rattle.seq_state.specs.Effect.{with_clock}
use Rattle.seq_clients.proofs.Requeued.{requeued, taken-none}
use Rattle.seq_clients.proofs.clients.Clients.resume.Goals as goal

pub resume-requires-clause-held : goal.resume-requires-clause-held
resume-requires-clause-held c = c.requires.held _ (sym c.in-Some.ensures.value)

pub resume-requires-clause-later : goal.resume-requires-clause-later
resume-requires-clause-later c = c.requires.later _ (sym c.in-Some.ensures.value)

pub returns-in-Some : goal.returns-in-Some
returns-in-Some c =
    requeued c.args.self.now c.args.client c.args.queue (with_clock (λ k. running_on k c.args.moment)) _ _ _ _
    c.in-Some.ensures.value c.in-Some.ensures.left c.resume.ensures c.put_queue.ensures

pub returns-in_default : goal.returns-in_default
returns-in_default c = taken-none c.args.self.now c.args.client c.args.queue (with_clock (λ k. running_on k c.args.moment)) _ c.in_default.ensures.value c.in_default.ensures.left
