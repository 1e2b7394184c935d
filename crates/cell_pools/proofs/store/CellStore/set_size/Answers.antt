use Rattle.std.proofs.Common.{refl, ap, ◌∙◌}
use Rattle.cell_pools.specs.Cells.{holding_of}
use Rattle.cell_pools.proofs.Maps.{held-insert_part}
use Rattle.cell_pools.proofs.Keeping.{lists-kept}
use Rattle.cell_pools.proofs.store.CellStore.set_size.Goals as goal

pub invariant_of-self : goal.invariant_of-self
invariant_of-self g c = lists-kept _ _ c.self.invariant _ (λ q. ap (λ m. (holding_of m q).keys) c.set_size.ensures ∙ held-insert_part (λ h. h.keys) _ _ _ refl q)
