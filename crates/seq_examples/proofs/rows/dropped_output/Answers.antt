use Rattle.seq_examples.proofs.DroppedOutput.{run}
use Rattle.seq_examples.proofs.rows.dropped_output.Goals as goal

pub returns : goal.returns
returns c = run
