use Rattle.seq_state.proofs.Run.{meet_law}
use Rattle.seq_state.proofs.laws.circles_meet.Goals as goal

pub returns : goal.returns
returns c = meet_law
