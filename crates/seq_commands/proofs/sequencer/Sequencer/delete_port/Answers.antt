use Rattle.seq_commands.specs.Whole.{clients_of}
use Rattle.seq_commands.proofs.PlaybacksGone.{port-gives}
use Rattle.seq_commands.proofs.sequencer.Sequencer.delete_port.Goals as goal

pub returns : goal.returns
returns g c =
    let d = c.drop_playbacks.ensures in
    port-gives c.args.self.now c.args.turn c.drop_playbacks.new.cells c.drop_playbacks.new.order _ d.cells c.args.port c.delete_port.new.self.clients c.delete_port.new.self.graph c.requires.accepted d.playbacks
    (d.timed (clients_of c.args.self.now) c.requires.whole.timed)
    c.delete_port.ensures.graph c.delete_port.ensures.clients
