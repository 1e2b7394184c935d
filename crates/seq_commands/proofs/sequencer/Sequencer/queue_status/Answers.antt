use Rattle.seq_state.specs.Effect.{queue_of}
use Rattle.seq_clients.specs.Roster.{Roster}
use Rattle.std.specs.FinMap.{get}
use Rattle.std.proofs.Common.{sym, ap, ◌∙◌}
use Rattle.std.specs.Prelude.{is_some}
use Rattle.std.specs.Option.{option_copied}
use Rattle.std.proofs.lemmas.Bool.{false≢true}
use Rattle.seq_commands.specs.Whole.{state_of}
use Rattle.seq_commands.proofs.QueuesAccepted.{accepted-status}
use Rattle.seq_commands.proofs.QueuesGiven.{status-told, status-given}
use Rattle.seq_commands.proofs.sequencer.Sequencer.queue_status.Goals as goal

pub unreachable-requires : goal.unreachable-requires
unreachable-requires c =
    let there = (accepted-status c.args.self.now.files (state_of c.args.self.now) c.args.turn.moment c.args.turn.actor c.args.queue.now c.requires.accepted).0 in
    false≢true (sym (ap (λ o. is_some (option_copied o)) c.in_default.is) ∙ ap is_some (c.queue.ensures ∙ ap (λ (r : Roster). queue_of (get r.clients c.args.queue.now.client) c.args.queue.now.queue) c.clients.ensures) ∙ there)

pub returns : goal.returns
returns c =
    status-given c.args.self.now c.args.turn c.args.queue.now c.in-Some.queue.now _ c.requires.accepted (sym (c.queue.ensures ∙ ap (λ (r : Roster). queue_of (get r.clients c.args.queue.now.client) c.args.queue.now.queue) c.clients.ensures) ∙ ap option_copied c.in-Some.is)
    (status-told c.args.turn.moment c.in-Some.queue.now c.clock-clock.result.now c.running.result c.tick.result c.elapsed.result c.clock-clock.ensures c.running.ensures c.tick.ensures c.elapsed.ensures)
