use Rattle.std.proofs.Common.{◌<◌, ◌-◌, ◌^◌}
use Rattle.seq_settle.specs.Order.{AreTimed}
use Rattle.seq_settle.proofs.QueueKeys.{place_of}
use Rattle.seq_settle.proofs.Woken.{ArePassed}
use Rattle.seq_settle.proofs.waking.wake_due.Given as goal

abbrev pub invariant-loop-first : goal.invariant-loop-first
invariant-loop-first g l = record {
  fits : (l.from.time < 2 ^ 64) × (l.from.rank < 2 ^ 64);
  timed : AreTimed (g.D.Desk.clients l.desk) l.cells.cells l.order (g.A.Agenda.content l.agenda);
  passed : ArePassed (g.D.Desk.clients l.desk) l.cells.cells l.order l.from l.moment l.earliest;
}

abbrev pub decreases-loop-first : goal.decreases-loop-first
decreases-loop-first g l = 2 ^ 160 - place_of l.from
