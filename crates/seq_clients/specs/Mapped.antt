-- Representation: A map whose values are made of another's.
use Rattle.std.specs.Prelude.{ℕ, map}
use Rattle.std.specs.Ordering.{nat_cmp}
use Rattle.std.specs.FinMap
use Rattle.std.specs.FinMap.{FinMap}

-- the same keys, each with what is made of it and of its value
abbrev pub with_values : {X Y : Type 0} → (ℕ → X → Y) → FinMap nat_cmp X → FinMap nat_cmp Y
with_values f m = FinMap.from_entries (map (λ e. (e.0, f e.0 e.1)) (FinMap.entries m))
