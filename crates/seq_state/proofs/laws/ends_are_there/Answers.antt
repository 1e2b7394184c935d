use Rattle.seq_state.proofs.Ends.{ends_law}
use Rattle.seq_state.proofs.laws.ends_are_there.Goals as goal

pub returns : goal.returns
returns c = ends_law
