use Rattle.seq_state.proofs.Listening.{heard_law}
use Rattle.seq_state.proofs.laws.listeners_lose_nothing.Goals as goal

pub returns : goal.returns
returns c = heard_law
