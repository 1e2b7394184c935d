use Rattle.std.proofs.Common.{◌∙◌, ap, sym}
use Rattle.std.specs.FinMap as map
use Rattle.test_tables.proofs.Tracking.{tracked-clear}
use Rattle.test_tables.proofs.driver.Driver.pop_due.Goals as goal

pub invariant_of-self-then-number-lt-CELLS : goal.invariant_of-self-then-number-lt-CELLS
invariant_of-self-then-number-lt-CELLS g c = record {
  tracked =
      tracked-clear (g.A.Agenda.content c.args.self.now.agenda) (g.A.Agenda.content c.pop_due.new.self) c.args.self.now.there c.number-number.result c.args.self.now.tracked c.if-number-lt-CELLS.true
      (c.in_ok-due.ensures.popped ∙ ap (map.remove (g.A.Agenda.content c.args.self.now.agenda)) (sym c.number-number.ensures));
}
