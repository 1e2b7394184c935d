use Rattle.seq_state.proofs.Changes.{edges_law}
use Rattle.seq_state.proofs.laws.edges_that_go.Goals as goal

pub returns : goal.returns
returns c = edges_law
