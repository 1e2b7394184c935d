use Rattle.session_live.proofs.Blanked.{bytes_law}
use Rattle.session_live.proofs.Shut.{agree_lines_law}
use Rattle.session_live.proofs.laws.live_isolated.Goals as goal

pub returns-clause-alone : goal.returns-clause-alone
returns-clause-alone c = bytes_law

pub returns-clause-agree : goal.returns-clause-agree
returns-clause-agree c = agree_lines_law
