use Rattle.program_tasks.specs.Explained.{loss_line}
use Rattle.program_tasks.proofs.Told.{line_next, line_all}
use Rattle.program_tasks.proofs.explanation.tell_losses.Goals as goal

pub loop-loss-preserved : goal.loop-loss-preserved
loop-loss-preserved g c = line_next g.N.Notes.HasTold loss_line c.args.losses.now c.loop-loss.loss-index _ _ _ _ c.loop-loss-test.true c.loss-item.is c.loop-loss.invariant c.tell.ensures

pub returns : goal.returns
returns g c = line_all g.N.Notes.HasTold loss_line c.args.losses.now c.loop-loss.loss-index _ _ c.loop-loss.auto.loss-index-end c.loop-loss-test.false c.loop-loss.invariant
