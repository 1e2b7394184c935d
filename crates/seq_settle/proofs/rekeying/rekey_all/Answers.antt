use Rattle.std.proofs.Common.{◌≡◌, ◌≤◌, ℕ, Some, refl, ap, ◌∙◌, arith}
use Rattle.tempo_clock.specs.declared.due.Due.{Due}
use Rattle.tempo_clock.specs.declared.due.Due.TheVariants.{Tick, Nanos}
use Rattle.seq_settle.specs.Lists.{list_at}
use Rattle.seq_settle.specs.Moments.{moment_at}
use Rattle.seq_settle.specs.Order.{waiting_key}
use Rattle.seq_settle.specs.Waiting.{cell_at}
use Rattle.seq_settle.proofs.Leaving.{leaving-start, leaving-end, nothing-left}
use Rattle.seq_settle.proofs.rekeying.rekey_all.Goals as goal

pub loop-listed-init : goal.loop-listed-init
loop-listed-init g c =
    let r = c.requires.timed in
    let row = c.row_of.ensures.row in
    record {
      leaving = leaving-start r.0 (g.D.Desk.clients c.args.desk.now) c.args.cells.now.cells c.args.order.now (record c.args.order.now { lists = c.take-left.new.self }) (g.A.Agenda.content c.args.agenda.now) c.args.steps c.args.queue.now
          c.row_of.ensures.is_queue c.take-left.result.items c.requires.cells r.1 r.2 (c.take-left.ensures.taken ∙ ap (list_at c.args.order.now.lists) row) (λ n off. c.take-left.ensures.others n (λ e. off (e ∙ row))) refl refl;
    }

pub returns : goal.returns
returns g c =
    let bound : (due : Due) (rank q accepted m : ℕ) → cell_at c.loop-listed.order.waiting (waiting_key c.args.queue.now rank due) ≡ Some q → moment_at (g.D.Desk.clients c.args.desk.now) c.args.queue.now accepted due ≡ Some m → c.hasten-2.new.order.earliest ≤ m =
    λ due. elim due as (λ d. (rank q accepted m : ℕ) → cell_at c.loop-listed.order.waiting (waiting_key c.args.queue.now rank d) ≡ Some q → moment_at (g.D.Desk.clients c.args.desk.now) c.args.queue.now accepted d ≡ Some m → c.hasten-2.new.order.earliest ≤ m) [
      | Tick t ↦ λ rank q accepted m at is. let l = c.hasten.ensures.bound (Tick t) rank q accepted m refl at is in omega (arith, c.hasten-2.ensures.sooner, l)
      | Nanos t ↦ λ rank q accepted m at is. c.hasten-2.ensures.bound (Nanos t) rank q accepted m refl (ap (λ w. cell_at w (waiting_key c.args.queue.now rank (Nanos t))) c.hasten.ensures.waiting ∙ at) is
    ] in
    leaving-end (g.D.Desk.clients c.args.desk.now) c.args.cells.now.cells c.loop-listed.order c.hasten-2.new.order (g.A.Agenda.content c.loop-listed.agenda) c.args.queue.now c.loop-listed.left.items (nothing-left c.loop-listed.left.items (omega (arith, c.in_default.ensures.cases.0, c.loop-listed.left.ok.0))) c.loop-listed.invariant.leaving
    (c.hasten-2.ensures.waiting ∙ c.hasten.ensures.waiting) (c.hasten-2.ensures.lists ∙ c.hasten.ensures.lists) (omega (arith, c.hasten.ensures.sooner, c.hasten-2.ensures.sooner)) bound
