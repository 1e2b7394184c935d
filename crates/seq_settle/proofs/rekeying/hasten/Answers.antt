use Rattle.std.proofs.Common.{◌≤◌, sym, ◌∙◌, arith}
use Rattle.seq_settle.specs.Order.{waiting_key}
use Rattle.seq_settle.proofs.Bounds.{first-le, no-sooner-none, no-sooner-some}
use Rattle.seq_settle.proofs.rekeying.hasten.Goals as goal

pub returns-in-Some-moment_of-clause-bound : goal.returns-in-Some-moment_of-clause-bound
returns-in-Some-moment_of-clause-bound g c = λ due rank q accepted m same at is.
    let no-later = first-le c.args.queue.now c.args.first c.due_like-due.result due rank c.in-Some.key _ c.queue_key-from.ensures c.requires same c.if-key-from.false (c.in-Some.ensures.least (waiting_key c.args.queue.now rank due) q at)
    c.due_like-due.ensures.base c.due_like-due.ensures.time in
    let least : c.in-Some-moment_of.moment ≤ m =
    no-sooner-some (g.D.Desk.clients c.args.desk.now) c.args.queue.now accepted c.due_like-due.result due c.in-Some-moment_of.moment m no-later (sym c.moment_of.ensures ∙ c.in-Some-moment_of.is) is in
    omega (arith, c.min-order.ensures)

pub returns-in_default-moment_of-clause-bound : goal.returns-in_default-moment_of-clause-bound
returns-in_default-moment_of-clause-bound g c = λ due rank q accepted m same at is.
    let no-later = first-le c.args.queue.now c.args.first c.due_like-due.result due rank c.in-Some.key _ c.queue_key-from.ensures c.requires same c.if-key-from.false (c.in-Some.ensures.least (waiting_key c.args.queue.now rank due) q at)
    c.due_like-due.ensures.base c.due_like-due.ensures.time in
    absurd (no-sooner-none (g.D.Desk.clients c.args.desk.now) c.args.queue.now accepted c.due_like-due.result due m no-later (sym c.moment_of.ensures ∙ c.in_default-moment_of.is) is)
