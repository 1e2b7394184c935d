use Rattle.seq_state.proofs.Sharing.{not_yours_law}
use Rattle.seq_state.proofs.laws.private_queues_are_refused.Goals as goal

pub returns : goal.returns
returns c = not_yours_law
