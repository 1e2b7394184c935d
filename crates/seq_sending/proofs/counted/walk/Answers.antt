use Rattle.patch_graph.specs.Paths.{hops}
use Rattle.seq_sending.proofs.counted.walk.Goals as goal

pub returns-clause-pools : goal.returns-clause-pools
unfolding hops
returns-clause-pools g c = c.walk_all.ensures.pools

pub returns-clause-sent : goal.returns-clause-sent
unfolding hops
returns-clause-sent g c = c.walk_all.ensures.sent
