use Rattle.std.proofs.Common.{not}
use Rattle.seq_session.specs.MadePorts.{had_port}
use Rattle.program_tasks.proofs.Absent.{kept_next}
use Rattle.program_tasks.proofs.explanation.absent_ports.Goals as goal

pub loop-port-preserved : goal.loop-port-preserved
loop-port-preserved c =
    kept_next (λ p. not (had_port p c.args.run.now.merged.inputs c.args.run.now.log.entries)) c.args.ports.now c.loop-port.port-index c.port-item.result _ _ c.loop-port-test.true c.port-item.is c.loop-port.invariant c.in_ok-push_absent.ensures
