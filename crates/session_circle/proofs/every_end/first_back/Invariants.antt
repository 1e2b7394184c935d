use Rattle.std.proofs.Common.{◌≡◌, drop}
use Rattle.session_circle.specs.EveryEnd.{first_back}
use Rattle.session_circle.proofs.every_end.first_back.Given as goal

abbrev pub invariant-loop-read : goal.invariant-loop-read
invariant-loop-read l = first_back l.reads ≡ first_back (drop l.read-index l.reads)
