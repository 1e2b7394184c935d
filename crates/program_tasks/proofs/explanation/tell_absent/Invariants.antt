use Rattle.std.proofs.Common.{take}
use Rattle.byte_io.specs.Moved.{Took}
use Rattle.program_tasks.specs.Explained.{lines_told, absent_line}
use Rattle.program_tasks.proofs.explanation.tell_absent.Given as goal

abbrev pub invariant-loop-port : goal.invariant-loop-port
invariant-loop-port g l = Took g.N.Notes.HasTold l.initial.notes (lines_told absent_line (take l.port-index l.absent)) l.notes
