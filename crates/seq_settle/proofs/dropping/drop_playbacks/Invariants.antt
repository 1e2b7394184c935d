use Rattle.std.proofs.Common.{◌≡◌, ℕ, cond}
use Rattle.std.specs.Ordering.{nat_cmp}
use Rattle.std.specs.FinMap.{FinMap, get}
use Rattle.cell_pools.specs.Cells.{size_of}
use Rattle.seq_state.specs.State.{Client}
use Rattle.seq_settle.specs.Drops.{kept_cell, stays}
use Rattle.seq_settle.specs.Order.{AreTimed}
use Rattle.seq_settle.proofs.Dropped.{is_below}
use Rattle.seq_settle.proofs.dropping.drop_playbacks.Given as goal

abbrev pub invariant-loop-number : goal.invariant-loop-number
invariant-loop-number g l = record {
  marked : (q : ℕ) → get l.cells.cells q ≡ cond (is_below l.number (get l.fn.cells.cells q)) (kept_cell (stays l.client l.which) (get l.fn.cells.cells q)) (get l.fn.cells.cells q);
  timed : (clients : FinMap nat_cmp Client) → AreTimed clients l.fn.cells.cells l.fn.order (g.A.Agenda.content l.fn.agenda) → AreTimed clients l.cells.cells l.order (g.A.Agenda.content l.agenda);
  sizes : (owner : ℕ) → size_of l.cells owner ≡ size_of l.fn.cells owner;
}
