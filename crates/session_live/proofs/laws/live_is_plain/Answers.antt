use Rattle.session_live.proofs.Plain.{plain_law}
use Rattle.session_live.proofs.Reading.{timed_law}
use Rattle.session_live.proofs.laws.live_is_plain.Goals as goal

pub returns-clause-moments : goal.returns-clause-moments
returns-clause-moments c = timed_law

pub returns-clause-log : goal.returns-clause-log
returns-clause-log c = plain_law
