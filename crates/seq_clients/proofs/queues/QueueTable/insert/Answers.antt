use Rattle.std.proofs.Common.{refl, arith}
use Rattle.seq_clients.proofs.Arrays.{inserted}
use Rattle.seq_clients.proofs.queues.QueueTable.insert.Goals as goal

pub returns : goal.returns
returns c = inserted (λ o. o) 0 8 _ _ c.self.view_is c.self.invariant c.args.queue c.number.result (omega (arith, c.number.ensures.value)) (omega (arith, c.number.ensures.value, c.number.ensures.small)) _ _ refl
