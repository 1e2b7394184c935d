use Rattle.std.proofs.Common.{ℕ, List, ap, sym, subst, ◌∙◌}
use Rattle.cell_pools.specs.Cells.{Store, Holding, AreKeys, cells_of, keys_of}
use Rattle.cell_pools.proofs.Keeping.{keys_listed}
use Rattle.cell_pools.proofs.store.CellStore.keys_of.Goals as goal

pub returns-clause-keys : goal.returns-clause-keys
returns-clause-keys g c =
    subst (λ (ks : List ℕ). AreKeys (cells_of c.args.self.now.cells c.args.client) ks)
    (sym (c.in_ok-keys.ensures.items ∙ c.keys.ensures.value ∙ ap (λ (h : Holding). h.keys) c.get.ensures.value ∙ ap (λ (s : Store g.row.T.Denot). keys_of s c.args.client) c.self.view_is))
    (keys_listed _ _ c.self.invariant _ c.self.view_is c.args.client)
