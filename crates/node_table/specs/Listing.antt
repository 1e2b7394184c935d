-- Definition: Listing in order of number.
use Rattle.std.specs.Prelude.{◌≡◌, ℕ, ◌<◌, ◌≤◌, Some, None}
use Rattle.std.specs.Ordering.{nat_cmp}
use Rattle.std.specs.FinMap.{FinMap, get}

-- the least number at or after `from` that is there, and what is there
pub record IsNext {X : Type 0} (m : FinMap nat_cmp X) (from number : ℕ) (x : X) : Type 0 where
  pub after : from ≤ number
  pub there : get m number ≡ Some x
  pub least : (n : ℕ) → from ≤ n → n < number → get m n ≡ None

-- nothing is there at or after `from`
abbrev pub NoneFrom : {X : Type 0} → FinMap nat_cmp X → ℕ → Type 0
NoneFrom m from = (n : ℕ) → from ≤ n → get m n ≡ None
