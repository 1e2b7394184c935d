use Rattle.seq_examples.proofs.Conditions.{each_condition}
use Rattle.seq_examples.proofs.rows.each_condition.Goals as goal

pub returns : goal.returns
returns c = each_condition
