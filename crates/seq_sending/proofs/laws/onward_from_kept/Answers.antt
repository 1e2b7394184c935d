use Rattle.seq_sending.proofs.Rooms.{onward_law}
use Rattle.seq_sending.proofs.laws.onward_from_kept.Goals as goal

pub returns : goal.returns
returns c = onward_law
