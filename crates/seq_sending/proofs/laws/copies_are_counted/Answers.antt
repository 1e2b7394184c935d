use Rattle.seq_sending.proofs.CopyCounts.{count_law}
use Rattle.seq_sending.proofs.laws.copies_are_counted.Goals as goal

pub returns : goal.returns
returns c = count_law
