use Rattle.seq_examples.proofs.OpenedAgain.{run}
use Rattle.seq_examples.proofs.rows.opened_again.Goals as goal

pub returns : goal.returns
returns c = run
