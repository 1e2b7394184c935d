use Rattle.seq_examples.proofs.RestartedQueue.{run}
use Rattle.seq_examples.proofs.rows.restarted_queue.Goals as goal

pub returns : goal.returns
returns c = run
