use Rattle.std.proofs.Common.{take}
use Rattle.byte_io.specs.Moved.{Took}
use Rattle.program_tasks.specs.Explained.{slips_told}
use Rattle.program_tasks.proofs.explanation.tell_slips.Given as goal

abbrev pub invariant-loop-slip : goal.invariant-loop-slip
invariant-loop-slip g l = Took g.N.Notes.HasTold l.initial.notes (slips_told l.session.scripts.items (take l.slip-index l.slips)) l.notes
