-- Representation: A quantity read byte by byte.
use Rattle.std.specs.Prelude.{ℕ, zero, suc, ◌+◌, ◌*◌, ◌%◌, List, [], ◌∷◌, Result, Ok, Err, nat_lt, if◌then◌else◌}
use Rattle.smf_grammar.specs.declared.fault.PairFault.{PairFault}
use Rattle.smf_grammar.specs.declared.fault.PairFault.TheVariants.{Truncated, LongQuantity}

-- the quantity that goes on here with at most so many bytes, after bytes that stand for this number
unfoldable pub septets_at : ℕ → ℕ → List ℕ → Result (ℕ × List ℕ) PairFault
septets_at zero high left = Err LongQuantity
septets_at (suc n) high [] = Err Truncated
septets_at (suc n) high (b ∷ left) =
    if nat_lt b 128 then Ok (high * 128 + b % 128, left)
    else septets_at n (high * 128 + b % 128) left
