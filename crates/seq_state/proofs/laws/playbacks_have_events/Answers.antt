use Rattle.seq_state.proofs.Ends.{filled_law}
use Rattle.seq_state.proofs.laws.playbacks_have_events.Goals as goal

pub returns : goal.returns
returns c = filled_law
