-- Definition: The greatest and the least number that passes a test, by trying each.
use Rattle.std.specs.Prelude.{ℕ, zero, suc, Bool, Option, Some, None, cond}

-- the greatest number up to a bound that passes, or 0 where none does
unfoldable pub greatest : (ℕ → Bool) → ℕ → ℕ
greatest passes zero = zero
greatest passes (suc n) = cond (passes (suc n)) (suc n) (greatest passes n)

-- what was found, or else the number itself where it passes
abbrev pub found_or : Option ℕ → Bool → ℕ → Option ℕ
found_or (Some k) passed n = Some k
found_or None passed n = cond passed (Some n) None

-- the least number up to a bound that passes, if any does
unfoldable pub least : (ℕ → Bool) → ℕ → Option ℕ
least passes zero = cond (passes zero) (Some zero) None
least passes (suc n) = found_or (least passes n) (passes (suc n)) (suc n)
