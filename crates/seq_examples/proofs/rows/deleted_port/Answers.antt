use Rattle.seq_examples.proofs.DeletedPort.{run}
use Rattle.seq_examples.proofs.rows.deleted_port.Goals as goal

pub returns : goal.returns
returns c = run
