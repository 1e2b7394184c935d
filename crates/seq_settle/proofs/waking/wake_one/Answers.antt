use Rattle.std.proofs.Common.{refl, sym, ap, subst, ◌∙◌}
use Rattle.std.specs.FinMap.{get}
use Rattle.std.proofs.lemmas.Result.{on_ok_weaker}
use Rattle.seq_settle.specs.Cells.{key_of}
use Rattle.seq_settle.specs.Lists.{IsIn, list_at}
use Rattle.seq_settle.specs.Order.{queue_row}
use Rattle.seq_settle.proofs.Timed.{keyed-free, listed-still, timed-woken}
use Rattle.seq_settle.proofs.Turn.{key_of-some}
use Rattle.seq_settle.proofs.waking.wake_one.Goals as goal

pub insert-requires-clause-absent : goal.insert-requires-clause-absent
insert-requires-clause-absent g c = (c.requires.timed.2.waits c.args.key c.args.cell c.requires.waits).free

pub insert-requires-clause-free : goal.insert-requires-clause-free
insert-requires-clause-free g c =
    let t = c.requires.timed in
    let h = key_of-some t.0 (get c.args.cells.now.cells c.args.cell) c.args.due t.1 in
    keyed-free t.0 c.args.cells.now.cells c.args.order.now (g.A.Agenda.content c.args.agenda.now) c.args.steps c.requires.cells t.2 c.args.cell h.0 c.args.due h.1 h.3

pub returns-clause-timed : goal.returns-clause-timed
returns-clause-timed g c =
    let x = c.requires.here in
    let rank = ap (λ h. h.rank) x.2 in
    let row = c.row_of.ensures.row ∙ ap (λ h. queue_row h.queue) x.2 in
    on_ok_weaker c.insert.result (λ e clients keyed timed.
    timed-woken clients c.args.cells.now.cells c.args.order.now (record c.args.order.now { waiting = c.remove.new.self; lists = c.add.new.self }) (g.A.Agenda.content c.args.agenda.now) c.args.steps c.requires.cells timed
    c.args.key c.args.cell x.0 c.args.due c.requires.waits x.1 (sym (ap (key_of clients) x.1) ∙ keyed) c.remove.ensures
    (subst (λ n. IsIn (record { cell = c.args.cell; rank = n }) (list_at c.add.new.self (queue_row x.0.1.queue))) rank (subst (λ r. IsIn (record { cell = c.args.cell; rank = c.args.head.now.rank }) (list_at c.add.new.self r)) row c.in_ok-add.ensures.own))
    (listed-still c.args.cells.now.cells c.args.order.now (record c.args.order.now { waiting = c.remove.new.self; lists = c.add.new.self }) c.row_of.result c.in_ok-add.ensures.kept c.in_ok-add.ensures.others) refl (g.A.Agenda.content c.insert.new.self) e) c.insert.ensures.ok
