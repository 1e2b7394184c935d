use Rattle.seq_examples.proofs.ThirdClients.{run}
use Rattle.seq_examples.proofs.rows.third_clients.Goals as goal

pub returns : goal.returns
returns c = run
