use Rattle.std.proofs.Common.{◌∙◌, sym, ap}
use Rattle.seq_state.specs.Effect.{queue_is}
use Rattle.seq_commands.specs.Whole.{clients_of}
use Rattle.seq_commands.proofs.PlaybacksGone.{queue-alone, queue-gives, queue-mine}
use Rattle.seq_commands.proofs.sequencer.Sequencer.delete_queue.Goals as goal

pub drop_playbacks-requires-clause-alone : goal.drop_playbacks-requires-clause-alone
drop_playbacks-requires-clause-alone g c = λ private.
    let s = c.args.self.now in
    queue-alone (clients_of s) s.cells.cells s.steps c.args.turn.actor c.requires.whole.cells c.requires.whole.sound.usable c.args.queue.now.queue
    (λ x at. ap (queue_is (λ q. q.shared)) (sym (queue-mine s c.args.turn c.args.queue.now c.requires.accepted ∙ at)) ∙ sym c.is_shared-shared.ensures ∙ private)

pub returns : goal.returns
returns g c =
    let d = c.drop_playbacks.ensures in
    queue-gives c.args.self.now c.args.turn c.drop_playbacks.new.cells c.drop_playbacks.new.order _ d.cells c.args.queue.now c.delete_queue.new.self.clients c.delete_queue.new.self.graph c.requires.accepted d.playbacks
    (d.timed (clients_of c.args.self.now) c.requires.whole.timed) d.left
    c.delete_queue.ensures.clients c.delete_queue.ensures.graph
