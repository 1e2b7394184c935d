-- Tables of four bytes for each number, one after another.
use Rattle.std.proofs.Common.{◌≡◌, ◌<◌, ◌-◌, ◌+◌, ◌*◌, ℕ, zero, suc, Bool, true, ◌&&◌, T, eqb, eqb→eq, eq-zero-or-pos, List, get_or, inl, inr, arith}
use lib.Ieee.Fits.{and_l, and_r}

-- the four bytes of a number
pub record AreFour (table : List ℕ) (n first second third fourth : ℕ) : Type 0 where
  pub first_is : get_or table (n * 4) 0 ≡ first
  pub second_is : get_or table (n * 4 + 1) 0 ≡ second
  pub third_is : get_or table (n * 4 + 2) 0 ≡ third
  pub fourth_is : get_or table (n * 4 + 3) 0 ≡ fourth

abbrev are_four : List ℕ → ℕ → ℕ → ℕ → ℕ → ℕ → Bool
are_four table n first second third fourth =
    (eqb (get_or table (n * 4) 0) first && eqb (get_or table (n * 4 + 1) 0) second)
    && (eqb (get_or table (n * 4 + 2) 0) third && eqb (get_or table (n * 4 + 3) 0) fourth)

-- the numbers below `n` have a byte, then what is found for the number twice, and a byte
abbrev pub are_lines : List ℕ → ℕ → (ℕ → ℕ) → (ℕ → ℕ) → ℕ → ℕ → Bool
are_lines table front second third back zero = true
are_lines table front second third back (suc n) =
    are_four table n front (second n) (third n) back && are_lines table front second third back n

pub line_below : (table : List ℕ) (front : ℕ) (second third : ℕ → ℕ) (back n k : ℕ) → T (are_lines table front second third back n) → k < n
    → AreFour table k front (second k) (third k) back
line_below table front second third back zero k t h = absurd (omega arith)
line_below table front second third back (suc n) k t h =
    elim (eq-zero-or-pos (n - k)) [
      | inl z ↦ let e : k ≡ n = omega arith in
          let here = and_l _ (are_lines table front second third back n) t in
          let left = and_l _ _ here in
          let right = and_r _ _ here in
          rw e (record {
            first_is = eqb→eq _ _ (and_l _ _ left);
            second_is = eqb→eq _ _ (and_r _ _ left);
            third_is = eqb→eq _ _ (and_l _ _ right);
            fourth_is = eqb→eq _ _ (and_r _ _ right);
          })
      | inr g ↦ line_below table front second third back n k (and_r _ (are_lines table front second third back n) t) (omega arith)
    ]
