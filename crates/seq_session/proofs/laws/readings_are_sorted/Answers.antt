use Rattle.seq_session.proofs.Joining.{readings_sorted}
use Rattle.seq_session.proofs.laws.readings_are_sorted.Goals as goal

pub returns : goal.returns
returns c = readings_sorted
