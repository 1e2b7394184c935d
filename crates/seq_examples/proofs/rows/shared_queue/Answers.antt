use Rattle.seq_examples.proofs.SharedQueue.{run}
use Rattle.seq_examples.proofs.rows.shared_queue.Goals as goal

pub returns : goal.returns
returns c = run
