use Rattle.seq_state.proofs.Settling.{settling_law}
use Rattle.seq_state.proofs.laws.settling_in_two.Goals as goal

pub returns : goal.returns
returns c = settling_law
