use Rattle.std.proofs.Common.{refl}
use Rattle.seq_examples.proofs.rows.lost_count_stays.Goals as goal

pub returns : goal.returns
returns c = refl
