use Rattle.std.proofs.Common.{◌≡◌, Some, sym, ap, ◌∙◌}
use Rattle.std.specs.Prelude.{is_some}
use Rattle.std.specs.Option.{option_copied, option_map}
use Rattle.std.specs.FinMap.{get}
use Rattle.std.proofs.lemmas.Bool.{false≢true}
use Rattle.smf_grammar.specs.Played.{as_played}
use Rattle.seq_state.specs.declared.input.Command.TheVariants.{CreateQueueFrom}
use Rattle.seq_state.specs.Effect.{with_change, put_queue, queue_of, held_queue, file_queue, file_at}
use Rattle.seq_state.specs.Step.{moment_in}
use Rattle.seq_state.proofs.Done.{creates-queue-from}
use Rattle.seq_clients.specs.Roster.{with_client}
use Rattle.seq_commands.specs.Whole.{clients_of, state_of}
use Rattle.seq_commands.proofs.ClientsGiven.{client-kept}
use Rattle.seq_commands.proofs.QueuesAccepted.{accepted-queue-from}
use Rattle.seq_commands.proofs.QueuesGiven.{replaced-same, held-same, file-queue}
use Rattle.seq_commands.proofs.sequencer.Sequencer.create_queue_from.Goals as goal

pub unreachable-requires : goal.unreachable-requires
unreachable-requires c =
    let there = (accepted-queue-from c.args.self.now.files (state_of c.args.self.now) c.args.turn.moment c.args.turn.actor c.args.queue c.args.file c.requires.accepted).0 in
    false≢true (sym (ap (λ o. is_some (option_map as_played (option_copied o))) c.in_default.is) ∙ ap is_some c.get.ensures ∙ there)

pub returns : goal.returns
returns c =
    let its = get (clients_of c.args.self.now) c.args.turn.actor in
    let wanted = file_queue (file_at c.args.self.now.files c.args.file) in
    let free = (accepted-queue-from c.args.self.now.files (state_of c.args.self.now) c.args.turn.moment c.args.turn.actor c.args.queue c.args.file c.requires.accepted).1 in
    let is : wanted ≡ Some (held_queue c.in_ok-map.map) = file-queue (option_copied c.get.result) _ c.in-Some.file.now _ (ap option_copied c.in-Some.is) c.get.ensures c.in_ok-map.ensures in
    client-kept c.args.self.now c.args.turn (CreateQueueFrom c.args.queue c.args.file) (with_change its (put_queue c.args.queue wanted)) _ _ c.requires.accepted
    (creates-queue-from c.args.self.now.files (state_of c.args.self.now) c.args.turn.moment c.args.turn.actor c.args.queue c.args.file)
    (c.create_queue.ensures.clients
    ∙ ap (λ x. with_client c.args.self.now.patchbay.clients c.args.turn.actor (with_change its (put_queue c.args.queue x))) (sym is)) c.create_queue.ensures.graph
    (replaced-same (clients_of c.args.self.now) c.args.turn.actor c.args.queue wanted (λ accepted due.
    held-same (queue_of its c.args.queue) c.in_ok-map.map accepted due free ∙ ap (λ o. moment_in o accepted due) (sym is)))
