use Rattle.std.proofs.Common.{None}
use Rattle.seq_sending.proofs.Keeping.{kept-queue}
use Rattle.seq_patchbay.proofs.patchbay.Patchbay.delete_queue.Goals as goal

pub invariant_of-self : goal.invariant_of-self
invariant_of-self c = kept-queue c.self.inside.clients _ c.self.inside.graph c.self.inside.ways c.args.client c.args.queue None c.delete_queue.ensures c.self.invariant
