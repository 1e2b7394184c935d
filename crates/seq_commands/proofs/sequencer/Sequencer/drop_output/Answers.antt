use Rattle.seq_commands.specs.Whole.{clients_of}
use Rattle.seq_commands.proofs.PlaybacksGone.{drop-gives}
use Rattle.seq_commands.proofs.sequencer.Sequencer.drop_output.Goals as goal

pub returns : goal.returns
returns g c =
    let d = c.drop_playbacks.ensures in
    drop-gives c.args.self.now c.args.turn c.drop_playbacks.new.cells c.drop_playbacks.new.order _ d.cells c.requires.accepted d.playbacks (d.timed (clients_of c.args.self.now) c.requires.whole.timed)
