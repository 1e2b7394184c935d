use Rattle.std.proofs.Common.{Some}
use Rattle.seq_state.specs.Effect.{held_queue}
use Rattle.seq_sending.proofs.Keeping.{kept-queue}
use Rattle.seq_patchbay.proofs.patchbay.Patchbay.create_queue.Goals as goal

pub invariant_of-self : goal.invariant_of-self
invariant_of-self c = kept-queue c.self.inside.clients _ c.self.inside.graph c.self.inside.ways c.args.client c.args.queue (Some (held_queue c.args.map)) c.create_queue.ensures c.self.invariant
