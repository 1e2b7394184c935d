use Rattle.session_live.proofs.Run.{run_law}
use Rattle.session_live.proofs.laws.live_is_run.Goals as goal

pub returns : goal.returns
returns c = run_law
