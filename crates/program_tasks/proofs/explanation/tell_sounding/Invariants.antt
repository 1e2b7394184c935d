use Rattle.std.proofs.Common.{take}
use Rattle.byte_io.specs.Moved.{Took}
use Rattle.program_tasks.specs.Explained.{lines_told, sounding_line}
use Rattle.program_tasks.proofs.explanation.tell_sounding.Given as goal

abbrev pub invariant-loop-note : goal.invariant-loop-note
invariant-loop-note g l = Took g.N.Notes.HasTold l.initial.notes (lines_told sounding_line (take l.note-index l.sounding)) l.notes
