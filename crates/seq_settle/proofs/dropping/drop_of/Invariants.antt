use Rattle.std.proofs.Common.{ℕ}
use Rattle.std.specs.Ordering.{nat_cmp}
use Rattle.std.specs.FinMap.{FinMap}
use Rattle.seq_state.specs.State.{Client}
use Rattle.seq_settle.specs.Cells.{AreCells}
use Rattle.seq_settle.specs.Order.{AreTimed}
use Rattle.seq_settle.proofs.Dropped.{IsPassed}
use Rattle.seq_settle.proofs.dropping.drop_of.Given as goal

abbrev pub invariant-loop-index : goal.invariant-loop-index
invariant-loop-index g l = record {
  passed : IsPassed l.client l.which l.owner l.index l.fn.cells l.cells;
  timed : (clients : FinMap nat_cmp Client) (n : ℕ) → AreCells l.fn.cells.cells n → AreTimed clients l.fn.cells.cells l.fn.order (g.A.Agenda.content l.fn.agenda) → AreTimed clients l.cells.cells l.order (g.A.Agenda.content l.agenda);
}
