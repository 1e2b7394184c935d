use Rattle.seq_state.proofs.Lowest.{lowest_law}
use Rattle.seq_state.proofs.laws.lowest_is_told.Goals as goal

pub returns : goal.returns
returns c = lowest_law
