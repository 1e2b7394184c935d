use Rattle.seq_examples.proofs.ListenedRun.{run}
use Rattle.seq_examples.proofs.rows.listened.Goals as goal

pub returns : goal.returns
returns c = run
