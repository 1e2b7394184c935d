use Rattle.seq_examples.proofs.CopiesByEdgeAge.{run}
use Rattle.seq_examples.proofs.rows.copies_by_edge_age.Goals as goal

pub returns : goal.returns
returns c = run
