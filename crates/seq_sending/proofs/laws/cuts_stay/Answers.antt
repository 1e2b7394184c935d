use Rattle.seq_sending.proofs.Rooms.{cut_law}
use Rattle.seq_sending.proofs.laws.cuts_stay.Goals as goal

pub returns : goal.returns
returns c = cut_law
