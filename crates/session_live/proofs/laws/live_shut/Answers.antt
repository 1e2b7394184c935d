use Rattle.session_live.proofs.Shut.{shut_lines_law}
use Rattle.session_live.proofs.laws.live_shut.Goals as goal

pub returns : goal.returns
returns c = shut_lines_law
