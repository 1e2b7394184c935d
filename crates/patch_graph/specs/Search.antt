-- Representation: Where a number stands in a list that rises.
use Rattle.std.specs.Prelude.{◌≡◌, ◌≤◌, ◌<◌, ◌+◌, ℕ, List, length, slice_index}

-- a place of a number among the first n from one on
pub record IsFrom (xs : List ℕ) (x place n k : ℕ) : Type 0 where
  pub after : place ≤ k
  pub before : k < place + n
  pub within : k < length xs
  pub there : slice_index xs k ≡ x

-- if a number stands anywhere, then also among the first n from a place on
abbrev pub StandsFrom : List ℕ → ℕ → ℕ → ℕ → Type 0
StandsFrom xs x place n =
    (i : ℕ) → i < length xs → slice_index xs i ≡ x → (k : ℕ) × IsFrom xs x place n k
