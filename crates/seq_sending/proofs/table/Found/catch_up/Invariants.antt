use Rattle.std.proofs.Common.{take}
use Rattle.seq_sending.specs.Reach.{MayLeadThrough}
use Rattle.seq_sending.specs.Table.{AreWaysSoFar, AreWaysThrough}
use Rattle.seq_sending.proofs.table.Found.catch_up.Given as goal

abbrev pub invariant-loop-way : goal.invariant-loop-way
invariant-loop-way l =
    AreWaysSoFar l.clients.clients l.graph l.targets l.fn.self →
    AreWaysThrough (MayLeadThrough l.self.through) l.clients.clients l.graph (take l.way l.targets) l.self.ways
