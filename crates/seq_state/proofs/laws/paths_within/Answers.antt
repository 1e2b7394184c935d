use Rattle.seq_state.proofs.Run.{path_law}
use Rattle.seq_state.proofs.laws.paths_within.Goals as goal

pub returns : goal.returns
returns c = path_law
