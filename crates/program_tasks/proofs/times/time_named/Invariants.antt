use Rattle.std.proofs.Common.{◌≤◌, length}
use Rattle.program_tasks.proofs.Lengths.{Sums, most}
use Rattle.program_tasks.proofs.times.time_named.Given as goal

abbrev pub invariant-loop-rest : goal.invariant-loop-rest
invariant-loop-rest l = record {
  sums : Sums l.word l.sum l.rest;
  fits : l.sum ≤ most;
}

abbrev pub decreases-loop-rest : goal.decreases-loop-rest
decreases-loop-rest l = length l.rest
