use Rattle.program_tasks.specs.Explained.{sounding_line}
use Rattle.program_tasks.proofs.Told.{line_next, line_all}
use Rattle.program_tasks.proofs.explanation.tell_sounding.Goals as goal

pub loop-note-preserved : goal.loop-note-preserved
loop-note-preserved g c = line_next g.N.Notes.HasTold sounding_line c.args.sounding.now c.loop-note.note-index _ _ _ _ c.loop-note-test.true c.note-item.is c.loop-note.invariant c.tell.ensures

pub returns : goal.returns
returns g c = line_all g.N.Notes.HasTold sounding_line c.args.sounding.now c.loop-note.note-index _ _ c.loop-note.auto.note-index-end c.loop-note-test.false c.loop-note.invariant
