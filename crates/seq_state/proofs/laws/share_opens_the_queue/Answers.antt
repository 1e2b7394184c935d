use Rattle.seq_state.proofs.Sharing.{share_law}
use Rattle.seq_state.proofs.laws.share_opens_the_queue.Goals as goal

pub returns : goal.returns
returns c = share_law
