-- A search by steps.
use Rattle.std.proofs.Common.{◌≡◌, ℕ, ◌+◌, ◌<◌, ◌≤◌, List, length, get_or, inl, inr, arith}
use Rattle.std.specs.List.Sorted.{IsNonDecreasing}
use Rattle.std.proofs.lemmas.Bool.{cases_lt}
use Rattle.patch_graph.specs.Search.{StandsFrom}

-- what stands before the next place, and not below what stands there, stands there too
pub stands_on : (xs : List ℕ) (x place n : ℕ) → IsNonDecreasing xs → place + n < length xs → get_or xs (place + n) 0 ≤ x → StandsFrom xs x place (n + n) → StandsFrom xs x (place + n) n
stands_on xs x place n up within low before i l e =
    let found = before i l e in
    let k = found.0 in
    let its = found.1 in
    let there : get_or xs k 0 ≡ x = its.there in
    let after = its.after in
    let end = its.before in
    elim (cases_lt k (place + n)) [
      | inl less ↦
          let not_above : get_or xs k 0 ≤ get_or xs (place + n) 0 = up k (place + n) 0 (omega (arith, less)) within in
          (place + n, record { after = omega arith; before = omega (arith, after, less); within = within; there = omega (arith, not_above, low, there) })
      | inr more ↦ (k, record { after = omega (arith, more); before = omega (arith, end); within = its.within; there = its.there })
    ]
