use Rattle.cell_pools.proofs.Keeping.{empty-kept}
use Rattle.cell_pools.proofs.store.CellStore.new.Goals as goal

pub returns-clause-empty : goal.returns-clause-empty
returns-clause-empty g c = empty-kept _ c.new-2.ensures.empty
