use Rattle.std.proofs.Common.{◌≡◌, replicate}
use Rattle.program_tasks.specs.Held.{nothing_held}
use Rattle.program_tasks.proofs.held_log.empty_logs.Given as goal

abbrev pub invariant-loop-log : goal.invariant-loop-log
invariant-loop-log l = l.logs.items ≡ replicate l._log nothing_held
