use Rattle.std.proofs.Common.{◌≡◌, map, Some}
use Rattle.program_tasks.specs.Words.{each_port}
use Rattle.program_tasks.proofs.words.ports_named.Given as goal

-- the ports of the parts so far
abbrev pub invariant-loop-part : goal.invariant-loop-part
invariant-loop-part l = Some l.ports.items ≡ each_port (map (λ part. part.now) l.yielded)
