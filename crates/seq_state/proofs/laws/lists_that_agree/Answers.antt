use Rattle.seq_state.proofs.Heard.{agree_law}
use Rattle.seq_state.proofs.laws.lists_that_agree.Goals as goal

pub returns : goal.returns
returns c = agree_law
