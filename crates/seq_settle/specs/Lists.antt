-- Representation: The lists of the cells that the agenda may have.
use Rattle.std.specs.Prelude.{◌≡◌, ℕ, zero, suc, ◌⊎◌, List, [], ◌∷◌, Some, refl}
use Rattle.std.specs.Ordering.{nat_cmp}
use Rattle.std.specs.FinMap
use Rattle.std.specs.FinMap.{FinMap}
use Rattle.std.specs.Coded.{Coded, code_by, coded×, coded_ℕ}
use Rattle.seq_settle.specs.declared.lists.Listed.{Listed}
use Rattle.seq_settle.specs.Cells.{PlaybackCell}

-- as two numbers
abbrev pub coded_listed : Coded Listed
coded_listed =
    code_by (ℕ × ℕ) (coded× coded_ℕ coded_ℕ) (λ e. (e.cell, e.rank))
    (λ p. record { cell = p.0; rank = p.1 }) (λ _. refl)

-- the list of a row, empty past the end
abbrev pub list_at : List (List Listed) → ℕ → List Listed
list_at [] r = []
list_at (l ∷ ls) zero = l
list_at (l ∷ ls) (suc r) = list_at ls r

-- a cell is listed
abbrev pub IsIn : Listed → List Listed → Type 0
IsIn e [] = ⊥
IsIn e (x ∷ xs) = (x ≡ e) ⊎ IsIn e xs

-- the playback that was listed is in its cell still
abbrev pub IsLive : FinMap nat_cmp PlaybackCell → Listed → Type 0
IsLive cells e = (c : PlaybackCell) × (FinMap.get cells e.cell ≡ Some c) × (c.1.rank ≡ e.rank)
