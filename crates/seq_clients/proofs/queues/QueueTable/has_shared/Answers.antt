use Rattle.std.proofs.Common.{◌<◌, ◌∙◌, ℕ, None, sym, arith}
use Rattle.seq_clients.proofs.Arrays.{get_at, under}
use Rattle.seq_clients.proofs.queues.QueueTable.has_shared.Goals as goal

pub returns-then-is_shared-clause-some : goal.returns-then-is_shared-clause-some
returns-then-is_shared-clause-some c = λ _.
    let n : ℕ = c.loop-number.number in
    (n, c.in-Some.queue, sym (get_at (λ o. o) 0 8 _ _ c.self.view_is c.self.invariant n n (omega arith) (omega (arith, c.loop-number-test.true)) _) ∙ c.in-Some.is, sym c.is_shared.ensures ∙ c.if-is_shared.true)

pub returns-clause-none : goal.returns-clause-none
returns-clause-none c = λ _ n q at.
    let i : n < 8 = under 8 _ _ c.self.view_is n q at in
    c.loop-number.invariant n q (omega (arith, i, c.loop-number-test.false)) (get_at (λ o. o) 0 8 _ _ c.self.view_is c.self.invariant n n (omega arith) i None ∙ at)
