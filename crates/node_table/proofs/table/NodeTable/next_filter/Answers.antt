use Rattle.std.proofs.Common.{◌∙◌, sym, inl, inr, arith}
use Rattle.std.proofs.lemmas.Bool.{cases_eq}
use Rattle.node_table.proofs.Clearing.{none_if_not}
use Rattle.node_table.proofs.Tables.{next_filter, no_more_filters, next_as}
use Rattle.node_table.proofs.table.NodeTable.next_filter.Goals as goal

pub loop-number-init : goal.loop-number-init
loop-number-init g c = λ n a b. absurd (omega (arith, a, b))

pub returns-in-Some-clause-next : goal.returns-in-Some-clause-next
returns-in-Some-clause-next g c =
    next_as _ _ _ _ _ _ c.unwrap.ensures c.new.ensures.value
    (next_filter _ _ _ _ _ c.self.invariant c.self.view_is _ _ c.row_of.ensures.start c.row_of.ensures.small _ _ _ _ c.loop-number.auto.number c.loop-number-test.true (rw c.deref.ensures.value at (sym c.in-Some.ensures)) c.index.ensures c.loop-number.invariant)

pub loop-number-preserved : goal.loop-number-preserved
loop-number-preserved g c = λ n a b. elim (cases_eq n c.loop-number.number) [
  | inl same ↦ rw same (none_if_not _ (λ k e. c.in_default.not-Some k (c.key_at.ensures ∙ rw c.deref.ensures.value e)))
  | inr ne ↦ c.loop-number.invariant n a (omega (arith, b, ne))
]

pub returns-clause-none : goal.returns-clause-none
returns-clause-none g c =
    no_more_filters _ _ _ _ _ c.self.invariant c.self.view_is _ _ c.row_of.ensures.start c.row_of.ensures.small _ (λ n a b. c.loop-number.invariant n a (omega (arith, b, c.loop-number-test.false)))
