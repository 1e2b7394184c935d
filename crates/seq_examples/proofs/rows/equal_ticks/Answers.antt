use Rattle.seq_examples.proofs.EqualTicks.{run}
use Rattle.seq_examples.proofs.rows.equal_ticks.Goals as goal

pub returns : goal.returns
returns c = run
