use Rattle.seq_engine.proofs.Soonest.{next_law}
use Rattle.seq_engine.proofs.next.nothing_before_next.Goals as goal

pub returns : goal.returns
returns c = next_law
