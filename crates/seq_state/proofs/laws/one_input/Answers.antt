use Rattle.seq_state.proofs.Run.{one_input_law}
use Rattle.seq_state.proofs.laws.one_input.Goals as goal

pub returns : goal.returns
returns c = one_input_law
