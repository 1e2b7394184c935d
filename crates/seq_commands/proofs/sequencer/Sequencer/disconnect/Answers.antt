use Rattle.seq_commands.proofs.EdgesStep.{disconnect-gives}
use Rattle.seq_commands.proofs.sequencer.Sequencer.disconnect.Goals as goal

pub returns : goal.returns
returns c =
    disconnect-gives c.args.self.now c.args.turn c.args.source.now c.args.target.now c.disconnect.new.self c.requires.accepted c.disconnect.ensures.clients c.disconnect.ensures.graph
