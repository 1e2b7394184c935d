-- A quantity read byte by byte is the quantity that stands first.
use Rattle.std.proofs.Common.{◌≡◌, ℕ, zero, suc, ◌+◌, ◌*◌, ◌%◌, Bool, true, false, List, [], ◌∷◌, ◌∙◌, length, take, drop, refl, arith, ap, sym}
use Rattle.std.specs.Prelude.{Result, Ok, Err, if◌then◌else◌, nat_le, nat_lt, ◌==◌}
use Rattle.std.proofs.lemmas.Bool.Decides.{nat_tests}
use Rattle.midi_wire.specs.Messages.{is_status}
use Rattle.smf_grammar.specs.Quantities.{continuation_count, septets, quantity}
use Rattle.smf_grammar.specs.Pairs.{quantity_by, quantity_at}
use Rattle.smf_grammar.specs.Septets.{septets_at}
use Rattle.smf_grammar.specs.declared.fault.QuantityFault.TheVariants.{Short, Long}
use Rattle.smf_grammar.specs.declared.fault.PairFault.{PairFault}
use Rattle.smf_grammar.specs.declared.fault.PairFault.TheVariants.{Truncated, LongQuantity}

abbrev told : ℕ → ℕ → ℕ → List ℕ → Result (ℕ × List ℕ) PairFault
told n high c left =
    if nat_le n c then Err LongQuantity else
    (if c == length left then Err Truncated else Ok (septets high (take (suc c) left), drop (suc c) left))

lower : (b : ℕ) → nat_lt b 128 ≡ true → is_status b ≡ false
lower b e = grind (arith, nat_tests)

upper : (b : ℕ) → nat_lt b 128 ≡ false → is_status b ≡ true
upper b e = grind (arith, nat_tests)

le-sucs : (n c : ℕ) → nat_le (suc n) (suc c) ≡ nat_le n c
le-sucs n c = grind (arith, nat_tests)

eq-sucs : (n c : ℕ) → (suc n == suc c) ≡ (n == c)
eq-sucs n c = grind (arith, nat_tests)

le-zero : (n : ℕ) → nat_le (suc n) 0 ≡ false
le-zero n = grind (arith, nat_tests)

eq-zero : (n : ℕ) → (0 == suc n) ≡ false
eq-zero n = grind (arith, nat_tests)

zero-le : (n : ℕ) → nat_le 0 n ≡ true
zero-le n = grind (arith, nat_tests)

pub septets-told : (n high : ℕ) (left : List ℕ) → septets_at n high left ≡ told n high (continuation_count left) left
unfolding septets_at
septets-told zero high left = ap (λ (t : Bool). if t then Err LongQuantity else (if continuation_count left == length left then Err Truncated else Ok (septets high (take (suc (continuation_count left)) left), drop (suc (continuation_count left)) left))) (sym (zero-le (continuation_count left)))
septets-told (suc n) high [] = ap (λ (t : Bool). if t then Err LongQuantity else (if (0 == 0) then Err Truncated else Ok (septets high (take 1 []), drop 1 []))) (sym (le-zero n))
septets-told (suc n) high (b ∷ left) =
    go (nat_lt b 128) refl (septets-told n (high * 128 + b % 128) left)
  where
    go : (t : Bool) → nat_lt b 128 ≡ t → septets_at n (high * 128 + b % 128) left ≡ told n (high * 128 + b % 128) (continuation_count left) left →
        (if t then Ok (high * 128 + b % 128, left) else septets_at n (high * 128 + b % 128) left) ≡ told (suc n) high (if is_status b then suc (continuation_count left) else 0) (b ∷ left)
    go true e ih = rw (lower b e, le-zero n, eq-zero (length left)) refl
    go false e ih = rw (upper b e, le-sucs n (continuation_count left), eq-sucs (continuation_count left) (length left)) ih

pub quantity-septets : (left : List ℕ) → quantity_at left ≡ septets_at 4 0 left
unfolding quantity
quantity-septets left =
    go (nat_le 4 (continuation_count left)) (continuation_count left == length left) ∙ sym (septets-told 4 0 left)
  where
    go : (t u : Bool) → quantity_by (if t then Err Long else (if u then Err Short else Ok (septets 0 (take (suc (continuation_count left)) left), suc (continuation_count left)))) left
        ≡ (if t then Err LongQuantity else (if u then Err Truncated else Ok (septets 0 (take (suc (continuation_count left)) left), drop (suc (continuation_count left)) left)))
    go true u = refl
    go false true = refl
    go false false = refl
