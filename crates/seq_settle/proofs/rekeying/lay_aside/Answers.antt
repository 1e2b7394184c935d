use Rattle.std.proofs.Common.{cond, Some, refl, sym, ap, ◌∙◌}
use Rattle.std.specs.FinMap.{get}
use Rattle.seq_settle.specs.Order.{waiting_key}
use Rattle.seq_settle.specs.Waiting.{cell_at, is_same}
use Rattle.seq_settle.proofs.Leaving.{leaving-skip, leaving-aside}
use Rattle.seq_settle.proofs.Looked.{looked-none, looked-some, looked-due, looked-here, looked-key, due-none, queue-apart, queue-same}
use Rattle.seq_settle.proofs.rekeying.lay_aside.Goals as goal
use Rattle.seq_settle.proofs.rekeying.lay_aside.Goals.{else-head-listed-via-then-head-listed+else-eq, else-head-listed-via-else-head-listed}

pub returns-in_default : goal.returns-in_default
returns-in_default g c = λ clients left h.
    leaving-skip clients _ _ _ c.args.queue.now c.args.listed left h (λ x here rank on. looked-none (get c.args.cells.now.cells c.args.listed.cell) x (sym c.in_default.is ∙ c.head_at.ensures) here)

pub returns-in_default-due : goal.returns-in_default-due
returns-in_default-due g c = λ clients left h.
    leaving-skip clients _ _ _ c.args.queue.now c.args.listed left h (λ x here rank on.
    due-none c.args.cells.now.cells c.args.steps c.requires.cells c.args.listed.cell x here
    (sym (looked-due (get c.args.cells.now.cells c.args.listed.cell) x c.in-Some.head (sym c.in-Some.is ∙ c.head_at.ensures) here) ∙ c.in_default-due.is))

pub returns-in_ok-insert : goal.returns-in_ok-insert
returns-in_ok-insert g c =
    let x = looked-here (get c.args.cells.now.cells c.args.listed.cell) c.in-Some.head (sym c.in-Some.is ∙ c.head_at.ensures) in
    let on = queue-same c.in-Some.head.queue c.args.queue.now (sym c.eq.ensures ∙ c.if-eq.true) in
    let key = c.queue_key-key.ensures ∙ ap (λ q. waiting_key q c.in-Some.head.rank c.in-Some-due.due) (sym on) ∙ looked-key x.0 c.in-Some.head c.in-Some-due.due x.2 c.in-Some-due.is in
    λ clients left h.
    leaving-aside clients _ _ _ c.args.queue.now c.args.listed left h c.args.steps c.requires.cells x.0 x.1 (sym (ap (λ y. y.queue) x.2) ∙ on) (record c.args.order.now { waiting = c.insert.new.self }) (g.A.Agenda.content c.remove.new.self)
    c.remove.ensures (λ j. c.in_ok-insert.ensures j ∙ ap (λ k. cond (is_same k j) (Some c.args.listed.cell) (cell_at c.args.order.now.waiting j)) key) refl refl

pub returns-else-head-listed : goal.returns-else-head-listed
returns-else-head-listed g c = λ clients left h.
    let look = sym c.in-Some.is ∙ c.head_at.ensures in
    elim c.else-head-listed.branch [
      | else-head-listed-via-then-head-listed+else-eq w ↦ leaving-skip clients _ _ _ c.args.queue.now c.args.listed left h (λ y here rank on.
          queue-apart c.in-Some.head.queue c.args.queue.now (sym w.eq.ensures ∙ w.if-eq.false) (ap (λ z. z.queue) (looked-some (get c.args.cells.now.cells c.args.listed.cell) y c.in-Some.head look here) ∙ on))
      | else-head-listed-via-else-head-listed w ↦ leaving-skip clients _ _ _ c.args.queue.now c.args.listed left h (λ y here rank on.
          w.if-head-listed.false (ap (λ z. z.rank) (looked-some (get c.args.cells.now.cells c.args.listed.cell) y c.in-Some.head look here) ∙ rank))
    ]
