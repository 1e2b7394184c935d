use Rattle.seq_state.proofs.Run.{isolation_law}
use Rattle.seq_state.proofs.laws.circle_alone.Goals as goal

pub returns : goal.returns
returns c = isolation_law
