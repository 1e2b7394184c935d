use Rattle.seq_clients.proofs.Seeing.{empty-roster, empty-kept}
use Rattle.seq_clients.proofs.clients.Clients.new.Goals as goal

pub invariant_of-result : goal.invariant_of-result
invariant_of-result c = empty-kept _ _ c.new.ensures c.new-2.ensures

pub returns : goal.returns
returns c = empty-roster _ _ c.new.ensures c.new-2.ensures
