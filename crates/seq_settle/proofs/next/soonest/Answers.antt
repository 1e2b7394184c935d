use Rattle.std.proofs.Common.{sym, ap, subst, ◌∙◌}
use Rattle.std.specs.Prelude.{unwrap_or}
use Rattle.seq_settle.specs.Order.{AreTimed}
use Rattle.seq_settle.proofs.NextMoment.{soonest-next}
use Rattle.seq_settle.proofs.Sooner.{first-of, soonest-first, soonest-both, timed-soonest}
use Rattle.seq_settle.proofs.next.soonest.Goals as goal

pub returns-then-not-is_sooner-clause-moment : goal.returns-then-not-is_sooner-clause-moment
returns-then-not-is_sooner-clause-moment g c =
    let clients = g.D.Desk.clients c.args.desk.now in
    let agenda = g.A.Agenda.content c.args.agenda.now in
    let first = first-of agenda c.first_moment-first.result c.first_moment-first.ensures.some c.first_moment-first.ensures.none in
    soonest-next clients c.args.cells.now.cells c.args.steps c.requires.cells (g.D.Desk.pools c.args.desk.now) (g.D.Desk.edges c.args.desk.now) c.first_moment-first.result
    (soonest-first clients c.args.cells.now.cells c.args.order.now agenda c.requires.timed c.first_moment-first.result first (sym c.is_sooner.ensures ∙ c.if-not-is_sooner.true))

pub returns-clause-moment : goal.returns-clause-moment
returns-clause-moment g c =
    let clients = g.D.Desk.clients c.args.desk.now in
    let agenda = g.A.Agenda.content c.args.agenda.now in
    let first = first-of agenda c.first_moment-first.result c.first_moment-first.ensures.some c.first_moment-first.ensures.none in
    c.sooner.ensures
    ∙ soonest-next clients c.args.cells.now.cells c.args.steps c.requires.cells (g.D.Desk.pools c.args.desk.now) (g.D.Desk.edges c.args.desk.now) _
    (soonest-both clients c.args.cells.now.cells c.args.order.now agenda c.requires.timed c.first_moment-first.result c.soonest_waiting-waiting.result first c.soonest_waiting-waiting.ensures)

pub returns-clause-timed : goal.returns-clause-timed
returns-clause-timed g c =
    let clients = g.D.Desk.clients c.args.desk.now in
    subst (AreTimed clients c.args.cells.now.cells (record c.args.order.now { earliest = c.unwrap_or-order.result })) (sym c.first_moment-first.ensures.same)
    (timed-soonest clients c.args.cells.now.cells c.args.order.now (g.A.Agenda.content c.args.agenda.now) c.requires.timed c.soonest_waiting-waiting.result c.soonest_waiting-waiting.ensures
    c.unwrap_or-order.result (λ m e. c.unwrap_or-order.ensures ∙ ap (λ o. unwrap_or o 18446744073709551615) e))
