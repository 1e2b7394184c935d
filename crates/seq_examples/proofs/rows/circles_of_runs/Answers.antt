use Rattle.seq_examples.proofs.SharedQueue.{all_closed, without_owner}
use Rattle.seq_examples.proofs.ThirdClients.{pair_closed, alone_open}
use Rattle.seq_examples.proofs.rows.circles_of_runs.Goals as goal

pub returns : goal.returns
returns c = record { pair = pair_closed; alone = alone_open; three = all_closed; without_owner = without_owner }
