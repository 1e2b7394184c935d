use Rattle.std.proofs.Common.{◌∙◌, arith}
use Rattle.seq_clients.proofs.Arrays.{get_at, removed}
use Rattle.seq_clients.proofs.queues.QueueTable.remove.Goals as goal

pub returns-clause-value : goal.returns-clause-value
returns-clause-value c = c.take.ensures.value ∙ get_at (λ o. o) 0 8 _ _ c.self.view_is c.self.invariant c.args.queue c.number.result (omega (arith, c.number.ensures.value)) (omega (arith, c.number.ensures.value, c.number.ensures.small)) _

pub returns-clause-left : goal.returns-clause-left
returns-clause-left c = removed (λ o. o) 0 8 _ _ c.self.view_is c.self.invariant c.args.queue c.number.result (omega (arith, c.number.ensures.value)) (omega (arith, c.number.ensures.value, c.number.ensures.small)) _ c.take.ensures.after
