use Rattle.session_live.proofs.Alone.{alone_law}
use Rattle.session_live.proofs.Reading.{lines_law}
use Rattle.session_live.proofs.laws.live_alone.Goals as goal

pub returns-clause-items : goal.returns-clause-items
returns-clause-items c = alone_law

pub returns-clause-lines : goal.returns-clause-lines
returns-clause-lines c = lines_law
