use Rattle.std.specs.FinMap.{get}
use Rattle.seq_state.specs.declared.input.Command.TheVariants.{Share}
use Rattle.seq_state.specs.Effect.{public, queue_of, queue_map, queue_changed}
use Rattle.seq_state.proofs.Done.{shares}
use Rattle.seq_commands.specs.Whole.{clients_of, state_of}
use Rattle.seq_commands.proofs.ClientsGiven.{client-kept}
use Rattle.seq_commands.proofs.QueuesGiven.{replaced-same, public-same}
use Rattle.seq_commands.proofs.sequencer.Sequencer.share.Goals as goal

pub returns : goal.returns
returns c =
    let its = get (clients_of c.args.self.now) c.args.turn.actor in
    let n = c.args.queue.now.queue in
    client-kept c.args.self.now c.args.turn (Share c.args.queue.now) (queue_changed its n public) _ _ c.requires.accepted
    (shares c.args.self.now.files (state_of c.args.self.now) c.args.turn.moment c.args.turn.actor c.args.queue.now)
    c.share.ensures.clients c.share.ensures.graph
    (replaced-same (clients_of c.args.self.now) c.args.turn.actor n (queue_map public (queue_of its n)) (public-same (queue_of its n)))
