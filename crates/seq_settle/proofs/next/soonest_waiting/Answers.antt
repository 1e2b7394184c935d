use Rattle.std.proofs.Common.{◌≡◌, Some, sym, subst, ◌∙◌, arith}
use Rattle.std.specs.FinMap.{get}
use Rattle.tempo_clock.specs.declared.due.Due.{Due}
use Rattle.seq_settle.specs.Moments.{moment_at}
use Rattle.seq_settle.specs.declared.head.PlaybackHead.{PlaybackHead}
use Rattle.seq_settle.proofs.Looked.{looked-none, looked-here}
use Rattle.seq_settle.proofs.Sooner.{looked-sooner, soonest-one, soonest-row}
use Rattle.seq_settle.proofs.Woken.{row-small}
use Rattle.seq_settle.proofs.next.soonest_waiting.Goals as goal

pub unreachable-requires : goal.unreachable-requires
unreachable-requires g c =
    let w = c.requires.timed.1.waits c.in-Some.first.0 c.in-Some.first.1 c.in-Some.ensures.there in
    looked-none (get c.args.cells.now.cells c.in-Some.first.1) w.cell (sym c.in_default-head_at.is ∙ c.head_at.ensures) w.here

pub overflow_add-from : goal.overflow_add-from
overflow_add-from g c =
    let small = row-small c.args.cells.now.cells c.requires.timed.0 c.args.steps c.requires.cells c.in-Some.first.0 c.in-Some.first.1 (c.requires.timed.1.waits c.in-Some.first.0 c.in-Some.first.1 c.in-Some.ensures.there) in
    record { fits = omega (arith, small.1, c.ranges.steps.fits) }

pub overflow_add-from-in-Some : goal.overflow_add-from-in-Some
overflow_add-from-in-Some g c =
    let small = row-small c.args.cells.now.cells c.requires.timed.0 c.args.steps c.requires.cells c.in-Some.first.0 c.in-Some.first.1 (c.requires.timed.1.waits c.in-Some.first.0 c.in-Some.first.1 c.in-Some.ensures.there) in
    record { fits = omega (arith, small.0) }

pub loop-first-preserved-then-is_sooner : goal.loop-first-preserved-then-is_sooner
loop-first-preserved-then-is_sooner g c =
    let clients = g.D.Desk.clients c.args.desk.now in
    let cell = get c.args.cells.now.cells c.in-Some.first.1 in
    let small = row-small c.args.cells.now.cells c.requires.timed.0 c.args.steps c.requires.cells c.in-Some.first.0 c.in-Some.first.1 (c.requires.timed.1.waits c.in-Some.first.0 c.in-Some.first.1 c.in-Some.ensures.there) in
    record {
      fits = (search, omega (arith, small.1, c.ranges.steps.fits));
      before = soonest-one clients c.args.cells.now.cells c.args.order.now c.requires.timed.0 c.args.steps c.requires.cells c.requires.timed.1 c.loop-first.from c.in-Some.first.0 c.in-Some.first.1 c.in-Some.ensures.there c.in-Some.ensures.least
          c.loop-first.least c.sooner-least.result c.loop-first.invariant.before
          (looked-sooner clients cell c.in-Some-head_at.head c.loop-first.least c.sooner-least.result c.moment_of_first.result (sym c.in-Some-head_at.is ∙ c.head_at.ensures) c.moment_of_first.ensures c.sooner-least.ensures);
    }

pub loop-first-preserved : goal.loop-first-preserved
loop-first-preserved g c =
    let clients = g.D.Desk.clients c.args.desk.now in
    let cell = get c.args.cells.now.cells c.in-Some.first.1 in
    let x = looked-here cell c.in-Some-head_at.head (sym c.in-Some-head_at.is ∙ c.head_at.ensures) in
    record {
      fits = (omega arith, omega arith);
      before = soonest-row clients c.args.cells.now.cells c.args.order.now c.requires.timed.0 c.args.steps c.requires.cells c.requires.timed.1 c.loop-first.from c.in-Some.first.0 c.in-Some.first.1 c.in-Some.ensures.there c.in-Some.ensures.least
          c.loop-first.least c.sooner-least.result c.loop-first.invariant.before
          (looked-sooner clients cell c.in-Some-head_at.head c.loop-first.least c.sooner-least.result c.moment_of_first.result (sym c.in-Some-head_at.is ∙ c.head_at.ensures) c.moment_of_first.ensures c.sooner-least.ensures)
          x.0 x.1 c.lower_bound.result (subst (λ (h : PlaybackHead). (due : Due) → h.due ≡ Some due → c.lower_bound.result ≡ moment_at clients h.queue 0 due) x.2 c.lower_bound.ensures)
          (sym c.is_sooner.ensures ∙ c.if-is_sooner.false);
    }
