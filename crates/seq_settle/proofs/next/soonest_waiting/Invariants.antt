use Rattle.std.proofs.Common.{◌<◌, ◌-◌, ◌^◌}
use Rattle.seq_settle.proofs.QueueKeys.{place_of}
use Rattle.seq_settle.proofs.Sooner.{IsSoonestBefore}
use Rattle.seq_settle.proofs.next.soonest_waiting.Given as goal

abbrev pub invariant-loop-first : goal.invariant-loop-first
invariant-loop-first g l = record {
  fits : (l.from.time < 2 ^ 64) × (l.from.rank < 2 ^ 64);
  before : IsSoonestBefore (g.D.Desk.clients l.desk) l.cells.cells l.order l.from l.least;
}

abbrev pub decreases-loop-first : goal.decreases-loop-first
decreases-loop-first g l = 2 ^ 160 - place_of l.from
