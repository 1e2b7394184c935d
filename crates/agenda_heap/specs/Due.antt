-- Definition: Due keys, and what is due in a map from cells to keys.
use Rattle.std.specs.Prelude.{◌≡◌, ◌≢◌, ℕ, ◌<◌, ◌≤◌, Some, List, [], ◌∷◌, length, slice_index_or, refl}
use Rattle.std.specs.declared.cmp.Ordering.{Ordering}
use Rattle.std.specs.declared.cmp.Ordering.TheVariants.{Less}
use Rattle.std.specs.Ordering.{nat_cmp, ordering_then}
use Rattle.std.specs.FinMap.{FinMap, get}
use Rattle.std.specs.List.{AllByRecursion}
use Rattle.std.specs.Coded.{Coded, code_by, coded×, coded_ℕ}
use Rattle.agenda_heap.specs.declared.due_key.DueKey.{DueKey}

-- by moment, then by rank, then by place
abbrev pub due_cmp : DueKey → DueKey → Ordering
due_cmp a b =
    ordering_then (nat_cmp a.moment b.moment)
    (ordering_then (nat_cmp a.rank b.rank) (nat_cmp a.place b.place))

-- no other cell has the key
abbrev pub IsFree : FinMap nat_cmp DueKey → ℕ → DueKey → Type 0
IsFree m cell key = (q : ℕ) → get m q ≡ Some key → q ≡ cell

-- the cell has this key, no key is less, and its moment has come
pub record IsFirstDue
    (m : FinMap nat_cmp DueKey) (cell : ℕ) (key : DueKey) (moment : ℕ) : Type 0 where
  pub here : get m cell ≡ Some key
  pub least : (q : ℕ) (k : DueKey) → get m q ≡ Some k → due_cmp k key ≢ Less
  pub due : key.moment ≤ moment

-- some cell has this key, and no key is less
abbrev pub IsFirst : FinMap nat_cmp DueKey → DueKey → Type 0
IsFirst m key = (cell : ℕ) × IsFirstDue m cell key key.moment

-- each key's moment is still to come
abbrev pub NoneDue : FinMap nat_cmp DueKey → ℕ → Type 0
NoneDue m moment = (q : ℕ) (k : DueKey) → get m q ≡ Some k → moment < k.moment

-- no cell has a key
abbrev pub IsBare : FinMap nat_cmp DueKey → Type 0
IsBare m = (moment : ℕ) → NoneDue m moment

-- as three numbers
abbrev pub coded_due_key : Coded DueKey
coded_due_key =
    code_by (ℕ × (ℕ × ℕ)) (coded× coded_ℕ (coded× coded_ℕ coded_ℕ))
    (λ k. (k.moment, (k.rank, k.place)))
    (λ p. record { moment = p.0; rank = p.1.0; place = p.1.1 }) (λ _. refl)

-- ---- a list of cells with their keys, the greatest first

-- the second entry is of another cell, and its key is less
pub record IsAfter (a b : ℕ × DueKey) : Type 0 where
  pub apart : b.0 ≢ a.0
  pub less : due_cmp b.1 a.1 ≡ Less

-- no cell stands twice, and the keys fall
abbrev pub KeysFall : List (ℕ × DueKey) → Type 0
KeysFall [] = Unit {0}
KeysFall (e ∷ es) = AllByRecursion (IsAfter e) es × KeysFall es

-- the key at this place, if there is one, is not greater than that one
abbrev pub IsNotAfter : DueKey → ℕ → List (ℕ × DueKey) → Type 0
IsNotAfter key place es =
    (d : ℕ × DueKey) → place < length es → due_cmp key (slice_index_or es place d).1 ≢ Less
