-- Definition: A log that is held in memory until it is printed.
use Rattle.std.specs.Prelude.{ℕ, Bool, false, List, []}

-- the bytes that it has taken, and whether it has failed
pub record HeldText : Type 0 where
  pub taken : List ℕ
  pub failed : Bool

-- one that has taken nothing
abbrev pub nothing_held : HeldText
nothing_held = record { taken = []; failed = false }
