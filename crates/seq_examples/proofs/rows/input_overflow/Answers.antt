use Rattle.seq_examples.proofs.InputOverflow.{run}
use Rattle.seq_examples.proofs.rows.input_overflow.Goals as goal

pub returns : goal.returns
returns c = run
