-- Representation: What is known of an agenda that is driven.
use Rattle.std.specs.Prelude.{◌≡◌, ℕ, Bool, false, List, Some, is_some, length, slice_index_or}
use Rattle.std.specs.Ordering.{nat_cmp}
use Rattle.std.specs.FinMap.{FinMap, get, insert}
use Rattle.agenda_heap.specs.declared.due_key.DueKey.{DueKey}

-- a key's rank is its cell, and these 100 flags tell which cells are there
pub record IsTracked (m : FinMap nat_cmp DueKey) (there : List Bool) : Type 0 where
  pub ranked : (q : ℕ) (k : DueKey) → get m q ≡ Some k → k.rank ≡ q
  pub told : (q : ℕ) → is_some (get m q) ≡ slice_index_or there q false
  pub hundred : length there ≡ 100

-- the cell has a key of this moment now
abbrev pub with_key : FinMap nat_cmp DueKey → ℕ → ℕ → FinMap nat_cmp DueKey
with_key m cell moment = insert m cell (record { moment = moment; rank = cell; place = 0 })
