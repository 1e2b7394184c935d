use Rattle.cell_pools.proofs.Keeping.{keys_listed}
use Rattle.cell_pools.proofs.store.CellStore.nth_of.Goals as goal

pub returns-clause-keys : goal.returns-clause-keys
returns-clause-keys g c = keys_listed _ _ c.self.invariant _ c.self.view_is c.args.client
