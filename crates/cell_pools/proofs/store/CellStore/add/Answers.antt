use Rattle.std.proofs.Common.{length, ap, sym, ◌∙◌}
use Rattle.cell_pools.specs.Cells.{Holding}
use Rattle.cell_pools.proofs.Keeping.{stored-kept, stored-seen, stored-vacant}
use Rattle.cell_pools.proofs.store.CellStore.add.Goals as goal

pub invariant_of-self-2 : goal.invariant_of-self-2
invariant_of-self-2 g c =
    stored-kept _ _ c.self.invariant _ c.self.view_is _ _ _ _ _ c.new-key.result _ _ (ap (λ n. n.slots) c.in-Ok.ensures.rest_kept)
    (c.insert_reserved.ensures.key ∙ sym c.vacant_key.ensures.value ∙ sym c.new-key.ensures) (ap length (c.keys-index.ensures.value ∙ ap (λ (h : Holding). h.keys) c.get.ensures.value))
    c.insert_reserved.ensures.was_vacant c.insert_reserved.ensures.updates.changed c.insert_reserved.ensures.updates.others c.in-Ok-push.ensures.ok c.get.ensures.low c.get.ensures.high

pub returns-clause-ok : goal.returns-clause-ok
returns-clause-ok g c =
    stored-seen _ _ c.self.invariant _ c.self.view_is _ _ _ _ _ c.new-key.result _ _ (ap (λ n. n.slots) c.in-Ok.ensures.rest_kept)
    (c.insert_reserved.ensures.key ∙ sym c.vacant_key.ensures.value ∙ sym c.new-key.ensures) (ap length (c.keys-index.ensures.value ∙ ap (λ (h : Holding). h.keys) c.get.ensures.value))
    c.insert_reserved.ensures.was_vacant c.insert_reserved.ensures.updates.changed c.insert_reserved.ensures.updates.others c.in-Ok-push.ensures.ok c.get.ensures.low c.get.ensures.high

pub returns-clause-vacant : goal.returns-clause-vacant
returns-clause-vacant g c =
    stored-vacant _ _ c.self.invariant _ c.self.view_is _ _ _ _ _ c.new-key.result _ _ (ap (λ n. n.slots) c.in-Ok.ensures.rest_kept)
    (c.insert_reserved.ensures.key ∙ sym c.vacant_key.ensures.value ∙ sym c.new-key.ensures) (ap length (c.keys-index.ensures.value ∙ ap (λ (h : Holding). h.keys) c.get.ensures.value))
    c.insert_reserved.ensures.was_vacant c.insert_reserved.ensures.updates.changed c.insert_reserved.ensures.updates.others c.in-Ok-push.ensures.ok c.get.ensures.low c.get.ensures.high
