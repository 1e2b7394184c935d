use Rattle.seq_examples.proofs.EqualMoments.{run}
use Rattle.seq_examples.proofs.rows.equal_moments.Goals as goal

pub returns : goal.returns
returns c = run
