use Rattle.program_tasks.specs.FolderFiles.{seen_lost}
use Rattle.program_tasks.specs.LeftOut.{lost_line}
use Rattle.program_tasks.proofs.Told.{told_first}
use Rattle.program_tasks.proofs.folder.+tell_unplayable.Goals as goal

pub returns-in-Some : goal.returns-in-Some
returns-in-Some g t c = told_first g.N.Notes.HasTold (lost_line c.args.explains) seen_lost c.args.files.now c.in-Some.more.now c.in-Some.first.now _ _ _ c.in-Some.ensures.cases.0 c.tell_one.ensures c.tell_unplayable.ensures
