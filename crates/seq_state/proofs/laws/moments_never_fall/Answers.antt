use Rattle.seq_state.proofs.Rising.{rising_law}
use Rattle.seq_state.proofs.laws.moments_never_fall.Goals as goal

pub returns : goal.returns
returns c = rising_law
