use Rattle.seq_state.proofs.Changes.{receive_law}
use Rattle.seq_state.proofs.laws.receive_takes_the_oldest.Goals as goal

pub returns : goal.returns
returns c = receive_law
