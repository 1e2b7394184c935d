use Rattle.std.proofs.Common.{length}
use Rattle.smf_make.proofs.Taken.{ToCome}
use Rattle.smf_make.proofs.make.make_file.Given as goal

abbrev pub invariant-loop-line : goal.invariant-loop-line
invariant-loop-line l = record { coming : ToCome l.maker l.left l.text }

abbrev pub decreases-loop-line : goal.decreases-loop-line
decreases-loop-line l = length l.left
