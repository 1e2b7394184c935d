use Rattle.std.proofs.Common.{◌↔◌, drop}
use Rattle.seq_session.specs.Rising.{RiseFrom, AreRising}
use Rattle.seq_session.specs.Devices.{clients}
use Rattle.seq_session.proofs.source.clients_rise.Given as goal

abbrev pub invariant-loop-source : goal.invariant-loop-source
invariant-loop-source g l =
    AreRising (clients l.scripts) ↔ RiseFrom l.low (clients (drop l.source-index l.more))
