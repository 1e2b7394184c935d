use Rattle.std.proofs.Common.{◌≡◌, ◌<◌, None, sym, ap, subst, ◌∙◌, arith}
use Rattle.std.specs.FinMap.{get}
use Rattle.std.proofs.lemmas.Option.{none-some, same_Some}
use Rattle.agenda_heap.specs.declared.due_key.DueKey.{DueKey}
use Rattle.seq_settle.specs.Waiting.{cell_at}
use Rattle.seq_settle.specs.Waking.{IsLeastMoment}
use Rattle.seq_settle.proofs.Looked.{looked-none, looked-here, looked-keyed}
use Rattle.seq_settle.proofs.Timed.{waits-here, waits-left}
use Rattle.seq_settle.proofs.Woken.{passed-one, passed-row, row-small}
use Rattle.seq_settle.proofs.waking.wake_due.Goals as goal

pub unreachable-requires : goal.unreachable-requires
unreachable-requires g c =
    let w = c.loop-first.invariant.timed.waits c.in-Some.first.0 c.in-Some.first.1 c.in-Some.ensures.there in
    looked-none (get c.args.cells.now.cells c.in-Some.first.1) w.cell (sym c.in_default-head_at.is ∙ c.head_at.ensures) w.here

pub overflow_add-from : goal.overflow_add-from
overflow_add-from g c =
    let small = row-small c.args.cells.now.cells (g.A.Agenda.content c.loop-first.agenda) c.args.steps c.requires.cells c.in-Some.first.0 c.in-Some.first.1 (c.loop-first.invariant.timed.waits c.in-Some.first.0 c.in-Some.first.1 c.in-Some.ensures.there) in
    record { fits = omega (arith, small.0) }

pub overflow_add-from-in-Some : goal.overflow_add-from-in-Some
overflow_add-from-in-Some g c =
    let small = row-small c.args.cells.now.cells (g.A.Agenda.content c.loop-first.agenda) c.args.steps c.requires.cells c.in-Some.first.0 c.in-Some.first.1 (c.loop-first.invariant.timed.waits c.in-Some.first.0 c.in-Some.first.1 c.in-Some.ensures.there) in
    record { fits = omega (arith, small.1, c.ranges.steps.fits) }

pub loop-first-preserved-then-least-moment : goal.loop-first-preserved-then-least-moment
loop-first-preserved-then-least-moment g c =
    let i = c.loop-first.invariant in
    let x = looked-here (get c.args.cells.now.cells c.in-Some.first.1) c.in-Some-head_at.head (sym c.in-Some-head_at.is ∙ c.head_at.ensures) in
    record {
      fits = (omega arith, omega arith);
      timed = i.timed;
      passed = passed-row (g.D.Desk.clients c.args.desk.now) c.args.cells.now.cells c.loop-first.order (g.A.Agenda.content c.loop-first.agenda) c.args.steps c.requires.cells i.timed c.loop-first.from c.in-Some.first.0 c.in-Some.first.1 c.in-Some.ensures.there c.in-Some.ensures.least c.args.moment c.loop-first.earliest i.passed
          x.0 x.1 c.least_moment-least.result (subst (λ h. IsLeastMoment (g.D.Desk.clients c.args.desk.now) h c.least_moment-least.result) x.2 c.least_moment-least.ensures.bound) c.if-least-moment.true c.min-earliest.result
          (omega (arith, c.min-earliest.ensures)) (omega (arith, c.min-earliest.ensures));
    }

pub loop-first-preserved-in_default-key_of : goal.loop-first-preserved-in_default-key_of
loop-first-preserved-in_default-key_of g c =
    let i = c.loop-first.invariant in
    let small = row-small c.args.cells.now.cells (g.A.Agenda.content c.loop-first.agenda) c.args.steps c.requires.cells c.in-Some.first.0 c.in-Some.first.1 (i.timed.waits c.in-Some.first.0 c.in-Some.first.1 c.in-Some.ensures.there) in
    let none = looked-keyed (g.D.Desk.clients c.args.desk.now) (get c.args.cells.now.cells c.in-Some.first.1) c.in-Some-head_at.head (sym c.in-Some-head_at.is ∙ c.head_at.ensures) ∙ sym c.key_of.ensures ∙ c.in_default-key_of.is in
    record {
      fits = (search, omega (arith, small.1, c.ranges.steps.fits));
      timed = i.timed;
      passed = passed-one (g.D.Desk.clients c.args.desk.now) c.args.cells.now.cells c.loop-first.order (g.A.Agenda.content c.loop-first.agenda) c.args.steps c.requires.cells i.timed c.loop-first.from c.in-Some.first.0 c.in-Some.first.1 c.in-Some.ensures.there c.in-Some.ensures.least c.args.moment c.loop-first.earliest i.passed
          c.loop-first.order c.loop-first.earliest (λ k q e. e) (omega arith) (λ key e f. absurd (none-some key (sym none ∙ f)));
    }

pub wake_one-requires-clause-timed : goal.wake_one-requires-clause-timed
wake_one-requires-clause-timed g c =
    (g.D.Desk.clients c.args.desk.now, looked-keyed (g.D.Desk.clients c.args.desk.now) (get c.args.cells.now.cells c.in-Some.first.1) c.in-Some-head_at.head (sym c.in-Some-head_at.is ∙ c.head_at.ensures) ∙ sym c.key_of.ensures ∙ c.in-Some-key_of.is, c.loop-first.invariant.timed)

pub loop-first-preserved-in-Continue-1 : goal.loop-first-preserved-in-Continue-1
loop-first-preserved-in-Continue-1 g c =
    let i = c.loop-first.invariant in
    let small = row-small c.args.cells.now.cells (g.A.Agenda.content c.loop-first.agenda) c.args.steps c.requires.cells c.in-Some.first.0 c.in-Some.first.1 (i.timed.waits c.in-Some.first.0 c.in-Some.first.1 c.in-Some.ensures.there) in
    let keyed = looked-keyed (g.D.Desk.clients c.args.desk.now) (get c.args.cells.now.cells c.in-Some.first.1) c.in-Some-head_at.head (sym c.in-Some-head_at.is ∙ c.head_at.ensures) ∙ sym c.key_of.ensures ∙ c.in-Some-key_of.is in
    record {
      fits = (search, omega (arith, small.1, c.ranges.steps.fits));
      timed = c.in_ok-wake_one.ensures.timed (g.D.Desk.clients c.args.desk.now) keyed i.timed;
      passed = passed-one (g.D.Desk.clients c.args.desk.now) c.args.cells.now.cells c.loop-first.order (g.A.Agenda.content c.loop-first.agenda) c.args.steps c.requires.cells i.timed c.loop-first.from c.in-Some.first.0 c.in-Some.first.1 c.in-Some.ensures.there c.in-Some.ensures.least c.args.moment c.loop-first.earliest i.passed
          c.wake_one.new.order c.loop-first.earliest (λ k q e. (waits-left (cell_at c.loop-first.order.waiting) (cell_at c.wake_one.new.order.waiting) c.in-Some.first.0 c.in_ok-wake_one.ensures.waiting k q e).1) (omega arith)
          (λ key e f. absurd (none-some c.in-Some.first.1 (sym (waits-here (cell_at c.loop-first.order.waiting) (cell_at c.wake_one.new.order.waiting) c.in-Some.first.0 None c.in_ok-wake_one.ensures.waiting) ∙ e)));
    }

pub returns-in_err-wake_one-clause-idle : goal.returns-in_err-wake_one-clause-idle
returns-in_err-wake_one-clause-idle g c = λ none.
    let keyed = looked-keyed (g.D.Desk.clients c.args.desk.now) (get c.args.cells.now.cells c.in-Some.first.1) c.in-Some-head_at.head (sym c.in-Some-head_at.is ∙ c.head_at.ensures) ∙ sym c.key_of.ensures ∙ c.in-Some-key_of.is in
    let later : c.args.moment < c.in-Some-key_of.due.moment = none c.in-Some.first.1 c.in-Some-key_of.due keyed in
    absurd (omega (arith, later, c.if-due-moment.true))

pub loop-first-preserved : goal.loop-first-preserved
loop-first-preserved g c =
    let i = c.loop-first.invariant in
    let small = row-small c.args.cells.now.cells (g.A.Agenda.content c.loop-first.agenda) c.args.steps c.requires.cells c.in-Some.first.0 c.in-Some.first.1 (i.timed.waits c.in-Some.first.0 c.in-Some.first.1 c.in-Some.ensures.there) in
    let keyed = looked-keyed (g.D.Desk.clients c.args.desk.now) (get c.args.cells.now.cells c.in-Some.first.1) c.in-Some-head_at.head (sym c.in-Some-head_at.is ∙ c.head_at.ensures) ∙ sym c.key_of.ensures ∙ c.in-Some-key_of.is in
    record {
      fits = (search, omega (arith, small.1, c.ranges.steps.fits));
      timed = i.timed;
      passed = passed-one (g.D.Desk.clients c.args.desk.now) c.args.cells.now.cells c.loop-first.order (g.A.Agenda.content c.loop-first.agenda) c.args.steps c.requires.cells i.timed c.loop-first.from c.in-Some.first.0 c.in-Some.first.1 c.in-Some.ensures.there c.in-Some.ensures.least c.args.moment c.loop-first.earliest i.passed
          c.loop-first.order c.min-earliest-else-due-moment.result (λ k q e. e) (omega (arith, c.min-earliest-else-due-moment.ensures))
          (λ key e f. let same : c.in-Some-key_of.due.moment ≡ key.moment = ap (λ (k : DueKey). k.moment) (same_Some c.in-Some-key_of.due key (sym keyed ∙ f)) in
          (omega (arith, same, c.if-due-moment.false), omega (arith, same, c.min-earliest-else-due-moment.ensures)));
    }
