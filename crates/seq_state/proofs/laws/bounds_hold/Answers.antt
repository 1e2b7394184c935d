use Rattle.seq_state.proofs.Bounds.{bounds_law}
use Rattle.seq_state.proofs.laws.bounds_hold.Goals as goal

pub returns : goal.returns
returns c = bounds_law
