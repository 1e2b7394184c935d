use Rattle.std.proofs.Common.{◌∙◌, false, get_or, ap, sym, refl}
use Rattle.std.specs.FinMap as map
use Rattle.agenda_heap.specs.declared.due_key.DueKey.{DueKey}
use Rattle.test_tables.proofs.Tracking.{tracked-set, tracked-tried}
use Rattle.test_tables.proofs.driver.Driver.set.Goals as goal

pub invariant_of-self : goal.invariant_of-self
invariant_of-self g c =
    let key : DueKey = record { moment = c.args.moment; rank = c.args.cell; place = 0 } in record {
      tracked =
          tracked-tried c.rekey.result (g.A.Agenda.content c.args.self.now.agenda) (g.A.Agenda.content c.rekey.new.self) c.args.self.now.there c.new.result key c.args.self.now.tracked
          (ap (λ i. get_or c.args.self.now.there i false) c.new.ensures ∙ c.if-self-cell.true) (sym c.new.ensures) c.rekey.ensures.ok c.rekey.ensures.err;
    }

pub invariant_of-self-2 : goal.invariant_of-self-2
invariant_of-self-2 g c =
    let key : DueKey = record { moment = c.args.moment; rank = c.args.cell; place = 0 } in record {
      tracked =
          tracked-set (g.A.Agenda.content c.args.self.now.agenda) (g.A.Agenda.content c.insert.new.self) c.args.self.now.there c.args.cell key c.args.self.now.tracked c.requires
          (c.in_ok-insert.ensures.ok ∙ ap (λ q. map.insert (g.A.Agenda.content c.args.self.now.agenda) q key) c.new-2.ensures) refl;
    }
