use Rattle.seq_state.proofs.Changes.{listen_law}
use Rattle.seq_state.proofs.laws.listen_keeps_what_waits.Goals as goal

pub returns : goal.returns
returns c = listen_law
