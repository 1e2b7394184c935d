use Rattle.std.proofs.Common.{length, ap, ◌∙◌}
use Rattle.cell_pools.specs.Cells.{Store, Holding, keys_of}
use Rattle.cell_pools.proofs.Keeping.{used_is, keys_listed}
use Rattle.cell_pools.proofs.store.CellStore.used.Goals as goal

pub returns-clause-count : goal.returns-clause-count
returns-clause-count g c =
    ap length (c.keys.ensures.value ∙ ap (λ (h : Holding). h.keys) c.get.ensures.value) ∙ ap (λ (s : Store g.row.T.Denot). length (keys_of s c.args.client)) c.self.view_is ∙ used_is _ _ c.self.invariant _ c.self.view_is c.args.client

pub returns-clause-keys : goal.returns-clause-keys
returns-clause-keys g c = keys_listed _ _ c.self.invariant _ c.self.view_is c.args.client
