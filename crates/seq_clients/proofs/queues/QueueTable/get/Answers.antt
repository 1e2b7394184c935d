use Rattle.std.proofs.Common.{◌∙◌, arith}
use Rattle.seq_clients.proofs.Arrays.{get_at}
use Rattle.seq_clients.proofs.queues.QueueTable.get.Goals as goal

pub returns : goal.returns
returns c = c.as_ref.ensures.value ∙ get_at (λ o. o) 0 8 _ _ c.self.view_is c.self.invariant c.args.queue c.number.result (omega (arith, c.number.ensures.value)) (omega (arith, c.number.ensures.value, c.number.ensures.small)) _
