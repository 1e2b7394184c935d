use Rattle.std.proofs.Common.{◌≡◌, map}
use Rattle.program_tasks.proofs.held_log.held_of.Given as goal

abbrev pub invariant-loop-text : goal.invariant-loop-text
invariant-loop-text l = map (λ log. log.taken) l.logs.items ≡ map (λ t. t.items) l.yielded
