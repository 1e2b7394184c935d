use Rattle.seq_state.proofs.Changes.{pending_law}
use Rattle.seq_state.proofs.laws.playbacks_that_go.Goals as goal

pub returns : goal.returns
returns c = pending_law
