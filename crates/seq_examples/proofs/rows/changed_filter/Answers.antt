use Rattle.seq_examples.proofs.ChangedFilter.{run}
use Rattle.seq_examples.proofs.rows.changed_filter.Goals as goal

pub returns : goal.returns
returns c = run
