use Rattle.std.proofs.Common.{take}
use Rattle.seq_sending.specs.Ways.{AreWaysTo}
use Rattle.seq_sending.proofs.ways.ways_to.Given as goal

abbrev pub invariant-loop-target : goal.invariant-loop-target
invariant-loop-target l = AreWaysTo l.clients.clients l.graph (take l.target-index l.targets) l.ways.items
