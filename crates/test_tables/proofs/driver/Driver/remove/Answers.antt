use Rattle.std.proofs.Common.{◌∙◌, ap}
use Rattle.std.specs.FinMap as map
use Rattle.test_tables.proofs.Tracking.{tracked-clear}
use Rattle.test_tables.proofs.driver.Driver.remove.Goals as goal

pub invariant_of-self : goal.invariant_of-self
invariant_of-self g c = record {
  tracked =
      tracked-clear (g.A.Agenda.content c.args.self.now.agenda) (g.A.Agenda.content c.remove.new.self) c.args.self.now.there c.args.cell c.args.self.now.tracked c.requires
      (c.remove.ensures ∙ ap (map.remove (g.A.Agenda.content c.args.self.now.agenda)) c.new.ensures);
}
