use Rattle.std.proofs.Common.{None, cond, refl, sym, ap, ◌∙◌}
use Rattle.std.specs.FinMap.{get}
use Rattle.seq_settle.specs.Order.{AreTimed}
use Rattle.seq_settle.specs.Waiting.{cell_at, is_same}
use Rattle.seq_settle.proofs.Dropped.{dropped-taken}
use Rattle.seq_settle.proofs.Looked.{looked-here, looked-key, due-none}
use Rattle.seq_settle.proofs.Timed.{timed-gone}
use Rattle.seq_settle.proofs.dropping.drop_one.Goals as goal

pub returns-in-Some-due-clause-cells : goal.returns-in-Some-due-clause-cells
returns-in-Some-due-clause-cells g c =
    dropped-taken c.args.client c.args.which.now c.args.cells.now c.args.cell _ c.in-Some.head (sym c.in-Some.is ∙ c.head_at.ensures) (sym c.chosen.ensures ∙ c.if-chosen.true) c.drop_cell.ensures

pub returns-in-Some-due-clause-timed : goal.returns-in-Some-due-clause-timed
returns-in-Some-due-clause-timed g c = λ clients n are timed.
    let x = looked-here (get c.args.cells.now.cells c.args.cell) c.in-Some.head (sym c.in-Some.is ∙ c.head_at.ensures) in
    let key = c.queue_key-key.ensures ∙ looked-key x.0 c.in-Some.head c.in-Some-due.due x.2 c.in-Some-due.is in
    timed-gone clients c.args.cells.now.cells c.args.order.now (record c.args.order.now { waiting = c.remove-in-Some-due.new.self }) (g.A.Agenda.content c.args.agenda.now) n are timed c.args.cell x.0 x.1
    (λ j. c.remove-in-Some-due.ensures j ∙ ap (λ k. cond (is_same k j) None (cell_at c.args.order.now.waiting j)) key) refl refl
    c.drop_cell.new.cells.cells (g.A.Agenda.content c.remove.new.self) c.drop_cell.ensures.cells c.remove.ensures

pub returns-in_default-due-clause-cells : goal.returns-in_default-due-clause-cells
returns-in_default-due-clause-cells g c =
    dropped-taken c.args.client c.args.which.now c.args.cells.now c.args.cell _ c.in-Some.head (sym c.in-Some.is ∙ c.head_at.ensures) (sym c.chosen.ensures ∙ c.if-chosen.true) c.drop_cell.ensures

-- each cell has an event left
pub returns-in_default-due-clause-timed : goal.returns-in_default-due-clause-timed
returns-in_default-due-clause-timed g c = λ clients n are timed.
    let x = looked-here (get c.args.cells.now.cells c.args.cell) c.in-Some.head (sym c.in-Some.is ∙ c.head_at.ensures) in
    absurd {A = AreTimed clients c.drop_cell.new.cells.cells c.args.order.now (g.A.Agenda.content c.remove.new.self)} (due-none c.args.cells.now.cells n are c.args.cell x.0 x.1 (sym (ap (λ y. y.due) x.2) ∙ c.in_default-due.is))
