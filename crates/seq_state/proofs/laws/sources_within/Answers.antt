use Rattle.seq_state.proofs.Circles.{sources_law}
use Rattle.seq_state.proofs.laws.sources_within.Goals as goal

pub returns : goal.returns
returns c = sources_law
