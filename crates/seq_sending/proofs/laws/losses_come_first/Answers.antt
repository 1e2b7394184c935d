use Rattle.seq_sending.proofs.Rooms.{losses_law}
use Rattle.seq_sending.proofs.laws.losses_come_first.Goals as goal

pub returns : goal.returns
returns c = losses_law
