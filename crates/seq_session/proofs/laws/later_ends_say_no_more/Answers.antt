use Rattle.seq_session.proofs.Later.{later_end_law}
use Rattle.seq_session.proofs.laws.later_ends_say_no_more.Goals as goal

pub returns : goal.returns
returns c = later_end_law
