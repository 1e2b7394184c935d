use Rattle.cell_pools.proofs.Gathering.{AreGathered}
use Rattle.cell_pools.proofs.store.CellStore.keys.Given as goal

abbrev pub invariant-loop-number : goal.invariant-loop-number
invariant-loop-number g l = AreGathered l.self.cells l.number l.keys.items
