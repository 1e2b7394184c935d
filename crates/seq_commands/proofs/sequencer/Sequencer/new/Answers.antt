use Rattle.seq_commands.proofs.Starting.{no-cells, seen-start}
use Rattle.seq_commands.proofs.sequencer.Sequencer.new.Goals as goal

pub returns-clause-state : goal.returns-clause-state
returns-clause-state c = seen-start c.new.result.clients c.new.result.graph c.new-2.result.cells c.new.ensures.clients c.new.ensures.graph

pub returns-clause-cells : goal.returns-clause-cells
returns-clause-cells c = no-cells c.new-2.result.cells 0 c.new-2.ensures.empty
