use Rattle.std.proofs.Common.{take}
use Rattle.std.specs.Prelude.{string_bytes}
use Rattle.byte_io.specs.Moved.{Took}
use Rattle.program_tasks.specs.Explained.{lines_told}
use Rattle.program_tasks.specs.LeftOut.{lost_line}
use Rattle.program_tasks.proofs.folder.tell_others.Given as goal

abbrev pub invariant-loop-name : goal.invariant-loop-name
invariant-loop-name g l = Took g.N.Notes.HasTold l.initial.notes (lines_told (λ name. lost_line l.explains (record { name = string_bytes name; why = l.why })) (take l.name-index l.names)) l.notes
