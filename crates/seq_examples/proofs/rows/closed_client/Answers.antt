use Rattle.seq_examples.proofs.ClosedClient.{run}
use Rattle.seq_examples.proofs.rows.closed_client.Goals as goal

pub returns : goal.returns
returns c = run
