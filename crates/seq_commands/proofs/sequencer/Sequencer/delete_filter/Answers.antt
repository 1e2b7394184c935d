use Rattle.seq_commands.proofs.ClientsGiven.{filter-gone}
use Rattle.seq_commands.proofs.sequencer.Sequencer.delete_filter.Goals as goal

pub returns : goal.returns
returns c = filter-gone c.args.self.now c.args.turn c.args.filter _ _ c.requires.accepted c.delete_filter.ensures.clients c.delete_filter.ensures.graph
