use Rattle.std.proofs.Common.{◌≡◌, ◌++◌, ℕ}
use Rattle.cell_pools.specs.Cells.{size_of}
use Rattle.seq_state.specs.Step.{settle}
use Rattle.agenda_heap.specs.Due.{NoneDue}
use Rattle.seq_settle.specs.Cells.{seen_state, playbacks, events_in}
use Rattle.seq_settle.specs.Order.{AreLater, AreTimed, NoneComes}
use Rattle.seq_settle.proofs.Covered.{all_keys}
use Rattle.seq_settle.proofs.Loop.{Keeps}
use Rattle.seq_settle.proofs.settling.settle_all.Given as goal

abbrev pub invariant-loop-due : goal.invariant-loop-due
invariant-loop-due g l = record {
  clients : g.D.Desk.clients l.desk ≡ g.D.Desk.clients l.fn.desk;
  edges : g.D.Desk.edges l.desk ≡ g.D.Desk.edges l.fn.desk;
  timed : AreTimed (g.D.Desk.clients l.fn.desk) l.cells.cells l.order (g.A.Agenda.content l.agenda);
  later : AreLater (g.D.Desk.clients l.fn.desk) l.cells.cells l.order l.moment;
  kept : Keeps (g.D.Desk.clients l.fn.desk) (g.D.Desk.edges l.fn.desk) l.steps l.moment
      (settle (seen_state (g.D.Desk.clients l.fn.desk) (g.D.Desk.pools l.fn.desk) (g.D.Desk.edges l.fn.desk) l.fn.cells.cells l.steps) l.moment).state
      (l.fn.out.items ++ (settle (seen_state (g.D.Desk.clients l.fn.desk) (g.D.Desk.pools l.fn.desk) (g.D.Desk.edges l.fn.desk) l.fn.cells.cells l.steps) l.moment).delivered)
      (g.D.Desk.pools l.desk) l.out.items l.cells.cells (all_keys (g.D.Desk.clients l.fn.desk) l.cells.cells);
  sizes : (client : ℕ) → size_of l.cells client ≡ size_of l.fn.cells client;
  idle : NoneComes (g.D.Desk.clients l.fn.desk) l.fn.cells.cells l.moment → NoneDue (g.A.Agenda.content l.agenda) l.moment;
}

abbrev pub decreases-loop-due : goal.decreases-loop-due
decreases-loop-due g l = events_in (playbacks l.cells.cells l.steps)
