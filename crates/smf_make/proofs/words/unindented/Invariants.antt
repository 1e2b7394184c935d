use Rattle.std.proofs.Common.{◌≡◌, ◌≤◌, length}
use Rattle.smf_make.specs.SaidEvents.{unindented}
use Rattle.smf_make.proofs.words.unindented.Given as goal

abbrev pub invariant-loop-left : goal.invariant-loop-left
invariant-loop-left l = record {
  value : unindented l.left ≡ unindented l.line;
  within : length l.left ≤ length l.line;
}

abbrev pub decreases-loop-left : goal.decreases-loop-left
decreases-loop-left l = length l.left
