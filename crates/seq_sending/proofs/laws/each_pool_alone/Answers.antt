use Rattle.seq_sending.proofs.Rooms.{each_pool_law, first_law}
use Rattle.seq_sending.proofs.laws.each_pool_alone.Goals as goal

pub returns-clause-pools : goal.returns-clause-pools
returns-clause-pools c = each_pool_law

pub returns-clause-first : goal.returns-clause-first
returns-clause-first c = first_law
