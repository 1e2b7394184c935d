use Rattle.session_circle.proofs.Ends.{every_end_law}
use Rattle.session_circle.proofs.laws.shut_for_every_end.Goals as goal

pub returns : goal.returns
returns c = every_end_law
