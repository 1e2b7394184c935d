use Rattle.seq_state.proofs.Changes.{others_law}
use Rattle.seq_state.proofs.laws.others_stay.Goals as goal

pub returns : goal.returns
returns c = others_law
