use Rattle.seq_patchbay.proofs.patchbay.Patchbay.new.Goals as goal

pub invariant_of-result : goal.invariant_of-result
invariant_of-result c = c.new-3.ensures c.new.result.clients c.new-2.result
