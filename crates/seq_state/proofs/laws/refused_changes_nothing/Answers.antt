use Rattle.seq_state.proofs.Refused.{refused_law}
use Rattle.seq_state.proofs.laws.refused_changes_nothing.Goals as goal

pub returns : goal.returns
returns c = refused_law
