-- The test of a message, against what a message is.
use Rattle.std.proofs.Common.{◌≡◌, ℕ, ◌≤◌, Bool, true, false, List, [], ◌∷◌, ◌++◌, length, refl, sym, ap, subst, arith}
use Rattle.std.specs.Prelude.{nat_le, nat_lt, ◌==◌, ◌&&◌, IsTrue}
use Rattle.std.proofs.lemmas.Bool.{le-leb, leb-true, eqb-true}
use Rattle.midi_wire.specs.Messages.{StatusClass, Channel, Common, TuneRequest, Exclusive, RealTime, Nothing, begins, all_data, IsExclusiveTail, IsTail, IsMessage, ends_data, is_tail, is_message}
use Rattle.midi_wire.specs.Laws.{TestsMessages}
use Rattle.midi_wire.proofs.Steps.{length-snoc}
use Rattle.midi_wire.proofs.Written.{and_true}

pub and_both : (a b : Bool) → a ≡ true → b ≡ true → (a && b) ≡ true
and_both true b e f = f
and_both false b e f = cc

-- ---- from what a message is to the test

empty-test : (tail : List ℕ) → tail ≡ [] → IsTrue (length tail == 0)
empty-test [] e = refl
empty-test (b ∷ tail) e = let f : (b ∷ tail) ≡ [] = e in cc

ends_data-append : (payload : List ℕ) → IsTrue (all_data payload) → IsTrue (ends_data (payload ++ 247 ∷ []))
ends_data-append [] p = refl
ends_data-append (b ∷ []) p = and_both (nat_lt b 128) true (and_true (nat_lt b 128) true p).0 refl
ends_data-append (b ∷ c ∷ payload) p = and_both (nat_lt b 128) (ends_data (c ∷ payload ++ 247 ∷ [])) (and_true (nat_lt b 128) (all_data (c ∷ payload)) p).0 (ends_data-append (c ∷ payload) (and_true (nat_lt b 128) (all_data (c ∷ payload)) p).1)

exclusive-test : (tail : List ℕ) → IsExclusiveTail tail → IsTrue (is_tail Exclusive tail)
exclusive-test tail p =
    let fits : length (p.0 ++ 247 ∷ []) ≤ 65537 = omega (arith, length-snoc p.0 247, p.3) in
    let short : length tail ≤ 65537 = subst (λ (xs : List ℕ). length xs ≤ 65537) (sym p.1) fits in
    and_both (nat_le (length tail) 65537) (ends_data tail) (le-leb (length tail) 65537 short) (subst (λ (xs : List ℕ). IsTrue (ends_data xs)) (sym p.1) (ends_data-append p.0 p.2))

tail-test : (k : StatusClass) (tail : List ℕ) → IsTail k tail → IsTrue (is_tail k tail)
tail-test (Channel w) tail p = p
tail-test (Common w) tail p = p
tail-test TuneRequest tail p = empty-test tail p
tail-test Exclusive tail p = exclusive-test tail p
tail-test RealTime tail p = empty-test tail p
tail-test Nothing tail p = absurd p

pub message-test : (m : List ℕ) → IsMessage m → IsTrue (is_message m)
message-test [] p = absurd p
message-test (s ∷ tail) p = tail-test (begins s) tail p

-- ---- and back

empty-tested : (tail : List ℕ) → IsTrue (length tail == 0) → tail ≡ []
empty-tested [] e = refl
empty-tested (b ∷ tail) e = let n : length (b ∷ tail) ≡ 0 = eqb-true (length (b ∷ tail)) 0 e in absurd (omega arith)

record EndsData (tail : List ℕ) : Type 0 where
  payload : List ℕ
  whole : tail ≡ payload ++ 247 ∷ []
  low : IsTrue (all_data payload)

data-before : (tail : List ℕ) → IsTrue (ends_data tail) → EndsData tail
data-before [] e = let f : false ≡ true = e in let g : ⊥ = cc in absurd g
data-before (b ∷ []) e = record { payload = []; whole = ap (λ (n : ℕ). n ∷ []) (eqb-true b 247 e); low = refl }
data-before (b ∷ c ∷ tail) e =
    let more : EndsData (c ∷ tail) = data-before (c ∷ tail) (and_true (nat_lt b 128) (ends_data (c ∷ tail)) e).1 in
    record {
      payload = b ∷ more.payload;
      whole = ap (λ (xs : List ℕ). b ∷ xs) more.whole;
      low = and_both (nat_lt b 128) (all_data more.payload) (and_true (nat_lt b 128) (ends_data (c ∷ tail)) e).0 more.low;
    }

exclusive-tested : (tail : List ℕ) → IsTrue (is_tail Exclusive tail) → IsExclusiveTail tail
exclusive-tested tail e =
    let found : EndsData tail = data-before tail (and_true (nat_le (length tail) 65537) (ends_data tail) e).1 in
    let short : length tail ≤ 65537 = leb-true (length tail) 65537 (and_true (nat_le (length tail) 65537) (ends_data tail) e).0 in
    let fits : length (found.payload ++ 247 ∷ []) ≤ 65537 = subst (λ (xs : List ℕ). length xs ≤ 65537) found.whole short in
    let few : length found.payload ≤ 65536 = omega (arith, length-snoc found.payload 247, fits) in
    (found.payload, found.whole, found.low, few)

tail-tested : (k : StatusClass) (tail : List ℕ) → IsTrue (is_tail k tail) → IsTail k tail
tail-tested (Channel w) tail p = p
tail-tested (Common w) tail p = p
tail-tested TuneRequest tail p = empty-tested tail p
tail-tested Exclusive tail p = exclusive-tested tail p
tail-tested RealTime tail p = empty-tested tail p
tail-tested Nothing tail p = let f : false ≡ true = p in let g : ⊥ = cc in absurd g

pub message-tested : (m : List ℕ) → IsTrue (is_message m) → IsMessage m
message-tested [] p = let f : false ≡ true = p in let g : ⊥ = cc in absurd g
message-tested (s ∷ tail) p = tail-tested (begins s) tail p

pub tests-messages : TestsMessages
tests-messages m = (message-tested m, message-test m)
