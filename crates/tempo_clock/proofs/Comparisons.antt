-- Tests of numbers, and of two tests at once.
use Rattle.std.proofs.Common.{◌≡◌, ◌≤◌, ◌<◌, ◌⊎◌, ◌&&◌, ◌||◌, inl, inr, ℕ, Bool, true, false, leb, ltb, refl, arith}
use Rattle.std.proofs.lemmas.Bool.Decides.{nat_tests}

pub order : (a b : ℕ) → (a ≤ b) ⊎ (b < a)
order a b = grind arith

pub is_above : (a b : ℕ) → b < a → leb a b ≡ false
is_above a b h = grind (arith, nat_tests)

pub not_above : (a b : ℕ) → leb a b ≡ false → b < a
not_above a b e = grind (arith, nat_tests)

pub not_below : (a b : ℕ) → ltb a b ≡ false → b ≤ a
not_below a b e = grind (arith, nat_tests)

pub both : (a b : Bool) → (a && b) ≡ true → (a ≡ true) × (b ≡ true)
both true b e = (refl, e)
both false b e = absurd cc

pub joined : (a b : Bool) → a ≡ true → b ≡ true → (a && b) ≡ true
joined true b e f = f
joined false b e f = absurd cc

pub either : (a b : Bool) → (a || b) ≡ true → (a ≡ true) ⊎ (b ≡ true)
either true b e = inl refl
either false b e = inr e

pub not_both : (b : Bool) → b ≡ true → b ≡ false → ⊥
not_both b t f = cc

pub neither : (b : Bool) → (b ≡ true → ⊥) → b ≡ false
neither true h = absurd (h refl)
neither false h = refl

pub second_false : (a : Bool) → (a && false) ≡ false
second_false true = refl
second_false false = refl
