use Rattle.std.proofs.Common.{◌≡◌, ap, sym, subst, ◌∙◌}
use Rattle.slab.specs.Slab.{Slab}
use Rattle.cell_pools.specs.declared.store.Cell.{Cell}
use Rattle.cell_pools.specs.Cells.{Store, IsTaken}
use Rattle.cell_pools.specs.Kept.{cells_kept}
use Rattle.cell_pools.proofs.Keeping.{found}
use Rattle.cell_pools.proofs.Taking.{taken-inside, stands-now, removed-last, removed-moved, moved-there, take-kept, take-shown, none-taken}
use Rattle.cell_pools.proofs.store.CellStore.take_owned.Goals as goal
use Rattle.cell_pools.proofs.store.CellStore.take_owned.Goals.{in-Some, in_default}

pub returns-in_err-client-clause-value : goal.returns-in_err-client-clause-value
returns-in_err-client-clause-value g c =
    c.from_residual.ensures ∙ sym (found _ _ c.self.invariant _ c.self.view_is _ _ _ c.number.ensures (sym c.in_err-client.ensures.value))

pub returns-in_err-client-clause-taken : goal.returns-in_err-client-clause-taken
returns-in_err-client-clause-taken g c =
    let same : ◌≡◌ {A = Store g.row.T.Denot} (record { cells = cells_kept c.try_remove.new.self.slots; clients = c.self.inside.clients }) c.args.self.now = ap (λ (n : Slab (Cell g.row.T.Denot)). record { cells = cells_kept n.slots; clients = c.self.inside.clients }) c.in_err-client.ensures.absent ∙ c.self.view_is in
    subst (λ (n : Store g.row.T.Denot). IsTaken c.args.self.now n c.args.key) (sym same) (none-taken _ _ (found _ _ c.self.invariant _ c.self.view_is _ _ _ c.number.ensures (sym c.in_err-client.ensures.value)))

pub swap_remove-requires : goal.swap_remove-requires
swap_remove-requires g c = taken-inside _ _ c.self.invariant _ _ (sym c.in_ok-client.ensures.value)

pub index_mut-requires : goal.index_mut-requires
index_mut-requires g c =
    moved-there _ _ c.self.invariant _ _ (sym c.in_ok-client.ensures.value) _ c.try_remove.ensures.updates.changed c.try_remove.ensures.updates.others _ _ c.number-in-Some.ensures
    (stands-now _ _ c.self.invariant _ _ (sym c.in_ok-client.ensures.value) _ _ _ c.swap_remove.ensures c.get.ensures.value c.in-Some.ensures)

pub invariant_of-self-in-Some : goal.invariant_of-self-in-Some
invariant_of-self-in-Some g c =
    take-kept _ _ c.self.invariant _ _ (sym c.in_ok-client.ensures.value) _
    (removed-moved _ _ c.self.invariant _ _ (sym c.in_ok-client.ensures.value) _ c.try_remove.ensures.updates.changed c.try_remove.ensures.updates.others _ _ c.number-in-Some.ensures
    (stands-now _ _ c.self.invariant _ _ (sym c.in_ok-client.ensures.value) _ _ _ c.swap_remove.ensures c.get.ensures.value c.in-Some.ensures) _ c.index_mut.ensures.value)
    _ c.swap_remove.ensures

pub invariant_of-self-in_default : goal.invariant_of-self-in_default
invariant_of-self-in_default g c =
    take-kept _ _ c.self.invariant _ _ (sym c.in_ok-client.ensures.value) _
    (removed-last _ _ c.self.invariant _ _ (sym c.in_ok-client.ensures.value) _ c.try_remove.ensures.updates.changed c.try_remove.ensures.updates.others
    (stands-now _ _ c.self.invariant _ _ (sym c.in_ok-client.ensures.value) _ _ _ c.swap_remove.ensures c.get.ensures.value c.key_at.ensures ∙ c.in_default.is))
    _ c.swap_remove.ensures

pub returns-clause-value : goal.returns-clause-value
returns-clause-value g c = sym (found _ _ c.self.invariant _ c.self.view_is _ _ _ c.number.ensures (sym c.in_ok-client.ensures.value))

pub returns-clause-taken : goal.returns-clause-taken
returns-clause-taken g c = elim c.match-key_at.branch [
  | in-Some w ↦
      take-shown _ _ c.self.invariant _ _ (sym c.in_ok-client.ensures.value) _
      (removed-moved _ _ c.self.invariant _ _ (sym c.in_ok-client.ensures.value) _ c.try_remove.ensures.updates.changed c.try_remove.ensures.updates.others _ _ w.number-in-Some.ensures
      (stands-now _ _ c.self.invariant _ _ (sym c.in_ok-client.ensures.value) _ _ _ c.swap_remove.ensures c.get.ensures.value w.in-Some.ensures) _ w.index_mut.ensures.value)
      _ _ _ _ c.swap_remove.ensures c.number.ensures c.self.view_is w.self-is
  | in_default w ↦
      take-shown _ _ c.self.invariant _ _ (sym c.in_ok-client.ensures.value) _
      (removed-last _ _ c.self.invariant _ _ (sym c.in_ok-client.ensures.value) _ c.try_remove.ensures.updates.changed c.try_remove.ensures.updates.others
      (stands-now _ _ c.self.invariant _ _ (sym c.in_ok-client.ensures.value) _ _ _ c.swap_remove.ensures c.get.ensures.value c.key_at.ensures ∙ w.in_default.is))
      _ _ _ _ c.swap_remove.ensures c.number.ensures c.self.view_is w.self-is
]
