use Rattle.cell_pools.proofs.Walking.{IsWalked}
use Rattle.cell_pools.proofs.laws.take_all.Given as goal

abbrev pub invariant-loop-index : goal.invariant-loop-index
invariant-loop-index g l = IsWalked l.client l.index l.initial.store l.store
