use Rattle.std.proofs.Common.{Some, ap, ◌∙◌}
use Rattle.std.specs.FinMap.{get}
use Rattle.seq_state.specs.declared.input.Command.TheVariants.{CreateQueue}
use Rattle.seq_state.specs.Effect.{with_change, put_queue, queue_of, held_queue, one_tempo}
use Rattle.seq_state.proofs.Done.{creates-queue}
use Rattle.seq_clients.specs.Roster.{with_client}
use Rattle.seq_commands.specs.Whole.{clients_of, state_of}
use Rattle.seq_commands.proofs.ClientsGiven.{client-kept}
use Rattle.seq_commands.proofs.QueuesAccepted.{accepted-queue}
use Rattle.seq_commands.proofs.QueuesGiven.{replaced-same, held-same}
use Rattle.seq_commands.proofs.sequencer.Sequencer.create_queue.Goals as goal

pub one_tempo-requires-clause-ppq : goal.one_tempo-requires-clause-ppq
one_tempo-requires-clause-ppq c = (accepted-queue c.args.self.now.files (state_of c.args.self.now) c.args.turn.moment c.args.turn.actor c.args.queue c.args.ppq c.args.tempo c.requires.accepted).0

pub one_tempo-requires-clause-tempo : goal.one_tempo-requires-clause-tempo
one_tempo-requires-clause-tempo c = (accepted-queue c.args.self.now.files (state_of c.args.self.now) c.args.turn.moment c.args.turn.actor c.args.queue c.args.ppq c.args.tempo c.requires.accepted).1

pub returns : goal.returns
returns c =
    let its = get (clients_of c.args.self.now) c.args.turn.actor in
    let map = one_tempo c.args.ppq c.args.tempo in
    let free = (accepted-queue c.args.self.now.files (state_of c.args.self.now) c.args.turn.moment c.args.turn.actor c.args.queue c.args.ppq c.args.tempo c.requires.accepted).2 in
    client-kept c.args.self.now c.args.turn (CreateQueue c.args.queue c.args.ppq c.args.tempo) (with_change its (put_queue c.args.queue (Some (held_queue map)))) _ _ c.requires.accepted
    (creates-queue c.args.self.now.files (state_of c.args.self.now) c.args.turn.moment c.args.turn.actor c.args.queue c.args.ppq c.args.tempo)
    (c.create_queue.ensures.clients
    ∙ ap (λ m. with_client c.args.self.now.patchbay.clients c.args.turn.actor (with_change its (put_queue c.args.queue (Some (held_queue m))))) c.in_ok-map.ensures) c.create_queue.ensures.graph
    (replaced-same (clients_of c.args.self.now) c.args.turn.actor c.args.queue (Some (held_queue map)) (λ accepted due. held-same (queue_of its c.args.queue) map accepted due free))
