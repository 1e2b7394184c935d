-- Representation: What is left after a `&mut` to a cell's value was returned.
use Rattle.std.specs.Borrow.{Lends, Fml, RattleType, MutBor}
use Rattle.cell_pools.specs.declared.store.Cell.{Cell}
use Rattle.cell_pools.specs.contracts.store.Cell.{the_row}

-- once the borrow ends, the cell has the last value written through it
abbrev pub LendsCellValue : (T : RattleType) → MutBor (Cell T.Denot) → MutBor T.Denot → Fml
LendsCellValue T c r = Lends (the_row T) T c r (λ w. record c.now { value = w })
