use Rattle.seq_circle.proofs.Mending.{mend_law}
use Rattle.seq_circle.proofs.laws.mended_is_shut.Goals as goal

pub returns : goal.returns
returns c = mend_law
