-- Keys of cells that wait: their order, the key that follows one, and the place of a key among numbers.
use Rattle.std.proofs.Common.{◌≡◌, ℕ, ◌+◌, ◌*◌, ◌^◌, ◌≤◌, ◌<◌, true, false, ◌||◌, arith}
use Rattle.std.specs.Ordering.{is_gt}
use Rattle.std.proofs.lemmas.Bool.Decides.{nat_tests}
use Rattle.seq_settle.specs.declared.waiting.QueueKey.{QueueKey}
use Rattle.seq_settle.specs.Waiting.{queue_cmp, is_same, is_before}

-- a key is before another where the other compares as greater
pub before-cmp : (a b : QueueKey) → is_before a b ≡ is_gt (queue_cmp b a)
before-cmp a b = grind (arith, nat_tests)

-- keys that test as one are one
pub same-key : (a b : QueueKey) → is_same a b ≡ true → a ≡ b
same-key a b same = grind (arith, nat_tests)

-- and a key tests as one with itself
pub same-itself : (a : QueueKey) → is_same a a ≡ true
same-itself a = grind (arith, nat_tests)

-- what is before the next rank is before the key or is the key
pub before-next : (a k : QueueKey) → is_before k (record { row = a.row; time = a.time; rank = a.rank + 1 }) ≡ (is_before k a || is_same a k)
before-next a k = grind (arith, nat_tests)

-- what is not before a key, but before the next row, is in the key's row and not before its time
pub before-row : (a k : QueueKey) → is_before k a ≡ false → is_before k (record { row = a.row + 1; time = 0; rank = 0 }) ≡ true → (k.row ≡ a.row) × (a.time ≤ k.time)
before-row a k behind before = (grind (arith, nat_tests), grind (arith, nat_tests))

-- no key is before the first
pub before-first : (k : QueueKey) → is_before k (record { row = 0; time = 0; rank = 0 }) ≡ false
before-first k = grind (arith, nat_tests)

-- a number that rises with the key
abbrev pub place_of : QueueKey → ℕ
place_of k = (k.row * 2 ^ 64 + k.time) * 2 ^ 64 + k.rank

-- a key that is not before another has no less a place, where times and ranks fit 64 bits
pub place-rises : (a b : QueueKey) → a.rank < 2 ^ 64 → a.time < 2 ^ 64 → b.rank < 2 ^ 64 → b.time < 2 ^ 64 → is_before b a ≡ false → place_of a ≤ place_of b
place-rises a b ar at br bt behind = grind (arith, nat_tests)
