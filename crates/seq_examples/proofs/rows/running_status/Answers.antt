use Rattle.seq_examples.proofs.SendInside.{running_status}
use Rattle.seq_examples.proofs.rows.running_status.Goals as goal

pub returns : goal.returns
returns c = running_status
