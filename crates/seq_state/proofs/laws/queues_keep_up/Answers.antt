use Rattle.seq_state.proofs.Rising.{ready_law}
use Rattle.seq_state.proofs.laws.queues_keep_up.Goals as goal

pub returns : goal.returns
returns c = ready_law
