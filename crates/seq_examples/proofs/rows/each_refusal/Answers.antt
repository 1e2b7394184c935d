use Rattle.seq_examples.proofs.Examples.{each_refusal}
use Rattle.seq_examples.proofs.rows.each_refusal.Goals as goal

pub returns : goal.returns
returns c = each_refusal
