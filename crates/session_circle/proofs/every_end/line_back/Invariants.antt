use Rattle.std.proofs.Common.{◌≡◌, drop}
use Rattle.session_circle.specs.EveryEnd.{line_back}
use Rattle.session_circle.proofs.every_end.line_back.Given as goal

abbrev pub invariant-loop-skip : goal.invariant-loop-skip
invariant-loop-skip l = line_back l.skips ≡ line_back (drop l.skip-index l.skips)
