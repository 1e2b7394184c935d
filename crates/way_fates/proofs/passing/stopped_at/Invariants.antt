use Rattle.way_fates.proofs.Passed.{IsOnItsWay}
use Rattle.way_fates.proofs.passing.stopped_at.Given as goal

abbrev pub invariant-loop-node : goal.invariant-loop-node
invariant-loop-node l = IsOnItsWay l.clients.clients l.nodes l.message l.node-index l.carried
