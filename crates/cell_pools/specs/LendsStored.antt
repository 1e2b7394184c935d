-- Representation: What is left after a `&mut` to a value of a store was returned.
use Rattle.std.specs.Prelude.{ℕ, Option}
use Rattle.std.specs.Borrow.{LendsIf, Fml, RattleType, MutBor}
use Rattle.cell_pools.specs.Cells.{Store, with_value}
use Rattle.cell_pools.specs.contracts.store.CellStore.{the_row}

module _ (T : RattleType) where
  -- once the borrow ends, the key has the last value written through it; at `None` all stays
  abbrev pub LendsValue : MutBor (Store T.Denot) → ℕ → Option (MutBor T.Denot) → Fml
  LendsValue s key r = LendsIf (the_row T) T s r (with_value s.now key) s.now
