use Rattle.std.proofs.Common.{◌≡◌, ◌++◌, length}
use Rattle.session_live.specs.Answers.{fronted}
use Rattle.session_live.proofs.parts.push_fronted.Given as goal

abbrev pub invariant-loop-end : goal.invariant-loop-end
invariant-loop-end l = l.text.items ++ fronted l.front l.rest ≡ l.fn.text.items ++ fronted l.front l.lines

abbrev pub decreases-loop-end : goal.decreases-loop-end
decreases-loop-end l = length l.rest
