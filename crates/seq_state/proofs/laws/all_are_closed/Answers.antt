use Rattle.seq_state.proofs.Circles.{all_closed_law}
use Rattle.seq_state.proofs.laws.all_are_closed.Goals as goal

pub returns : goal.returns
returns c = all_closed_law
