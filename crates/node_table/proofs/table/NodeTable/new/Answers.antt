use Rattle.std.proofs.Common.{ap, length, get_or, None, arith}
use Rattle.node_table.proofs.Tables.{new-kept, new-shown}
use Rattle.node_table.proofs.table.NodeTable.new.Goals as goal

pub invariant_of-result : goal.invariant_of-result
invariant_of-result g c =
    new-kept (λ v. v.items) _ _ _ c.nothing.ensures.none (λ i. ap (λ ks. get_or ks i None) c.new.ensures.items) c.nothing.ensures.len (λ h. absurd (omega (arith, h, ap length c.new.ensures.items))) (λ k. ap (λ s. get_or s k None) c.new-2.ensures.empty)

pub returns : goal.returns
returns g c = new-shown _ _ _ _ c.nothing.ensures.none (λ i. ap (λ ks. get_or ks i None) c.new.ensures.items)
