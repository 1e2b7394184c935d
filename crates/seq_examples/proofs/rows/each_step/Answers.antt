use Rattle.seq_examples.proofs.Steps.{each_step}
use Rattle.seq_examples.proofs.rows.each_step.Goals as goal

pub returns : goal.returns
returns c = each_step
