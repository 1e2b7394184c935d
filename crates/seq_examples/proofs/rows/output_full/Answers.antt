use Rattle.seq_examples.proofs.OutputFull.{run}
use Rattle.seq_examples.proofs.rows.output_full.Goals as goal

pub returns : goal.returns
returns c = run
