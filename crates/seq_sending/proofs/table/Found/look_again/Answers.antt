use Rattle.std.proofs.Common.{◌≡◌, ◌<◌, ℕ, true, sym, subst}
use Rattle.seq_sending.specs.Reach.{is_passed, MayLeadThrough}
use Rattle.seq_sending.proofs.Agreeing.{order-weaker, passed-before}
use Rattle.seq_sending.proofs.table.Found.look_again.Goals as goal

pub returns-in-Ok-look_from-clause-through : goal.returns-in-Ok-look_from-clause-through
returns-in-Ok-look_from-clause-through c some order =
    let a = c.args in
    let left = c.leave_before.new.passed.items in
    let earlier : (way x : ℕ) → way < a.place → MayLeadThrough a.self.now.through way x → is_passed left way x ≡ true =
    λ way x low its.
    subst (λ xs. is_passed xs way x ≡ true) (sym c.leave_before.ensures)
    (passed-before c.look_at.new.passed.items a.place way x low (c.look_at.ensures.kept way x (subst (λ t. MayLeadThrough t way x) c.in-These.is its))) in
    c.in-Ok-look_from.ensures c.if-left-ne0.true (order-weaker (MayLeadThrough a.self.now.through) (λ way x. is_passed left way x ≡ true) a.graph.now a.targets.now a.place earlier order)
