use Rattle.std.proofs.Common.{take}
use Rattle.byte_io.specs.Moved.{Took}
use Rattle.program_tasks.specs.Explained.{lines_told, loss_line}
use Rattle.program_tasks.proofs.explanation.tell_losses.Given as goal

abbrev pub invariant-loop-loss : goal.invariant-loop-loss
invariant-loop-loss g l = Took g.N.Notes.HasTold l.initial.notes (lines_told loss_line (take l.loss-index l.losses)) l.notes
