use Rattle.seq_sending.proofs.Keeping.{kept-queue}
use Rattle.seq_patchbay.proofs.patchbay.Patchbay.resume.Goals as goal

pub invariant_of-self : goal.invariant_of-self
invariant_of-self c = kept-queue c.self.inside.clients _ c.self.inside.graph c.self.inside.ways c.args.client c.args.queue _ c.resume.ensures c.self.invariant
