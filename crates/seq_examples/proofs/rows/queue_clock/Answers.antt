use Rattle.seq_examples.proofs.QueueClock.{run}
use Rattle.seq_examples.proofs.rows.queue_clock.Goals as goal

pub returns : goal.returns
returns c = run
