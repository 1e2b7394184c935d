use Rattle.std.proofs.Common.{take}
use Rattle.byte_io.specs.Moved.{Took}
use Rattle.program_tasks.specs.Explained.{diagnostics_told}
use Rattle.program_tasks.proofs.explanation.tell_diagnostics.Given as goal

abbrev pub invariant-loop-diagnostic : goal.invariant-loop-diagnostic
invariant-loop-diagnostic g l = Took g.N.Notes.HasTold l.initial.notes (diagnostics_told l.session.scripts.items (take l.diagnostic-index l.diagnostics)) l.notes
