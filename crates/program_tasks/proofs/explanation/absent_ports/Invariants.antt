use Rattle.std.proofs.Common.{◌≡◌, not, take}
use Rattle.std.specs.List.{filter}
use Rattle.seq_session.specs.MadePorts.{had_port}
use Rattle.program_tasks.proofs.explanation.absent_ports.Given as goal

abbrev pub invariant-loop-port : goal.invariant-loop-port
invariant-loop-port l = l.absent.items ≡ filter (λ p. not (had_port p l.run.merged.inputs l.run.log.entries)) (take l.port-index l.ports)
