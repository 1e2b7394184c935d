use Rattle.program_tasks.specs.Explained.{absent_line}
use Rattle.program_tasks.proofs.Told.{line_next, line_all}
use Rattle.program_tasks.proofs.explanation.tell_absent.Goals as goal

pub loop-port-preserved : goal.loop-port-preserved
loop-port-preserved g c = line_next g.N.Notes.HasTold absent_line c.args.absent.now c.loop-port.port-index _ _ _ _ c.loop-port-test.true c.port-item.is c.loop-port.invariant c.tell.ensures

pub returns : goal.returns
returns g c = line_all g.N.Notes.HasTold absent_line c.args.absent.now c.loop-port.port-index _ _ c.loop-port.auto.port-index-end c.loop-port-test.false c.loop-port.invariant
