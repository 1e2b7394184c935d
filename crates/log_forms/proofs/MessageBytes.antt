-- Each message is one byte or more.
use Rattle.std.proofs.Common.{◌≡◌, ◌≤◌, ◌+◌, ℕ, Bool, true, false, ◌&&◌, ◌==◌, nat_lt, List, [], ◌∷◌, length, refl, ap, ◌∙◌, subst, arith}
use Rattle.std.specs.List.{list_all}
use Rattle.std.proofs.lemmas.Bool.Decides.{nat_tests}
use Rattle.std.proofs.lemmas.List.Folds.{list_all-append}
use Rattle.midi_wire.specs.declared.status.StatusClass.{StatusClass}
use Rattle.midi_wire.specs.declared.status.StatusClass.TheVariants.{Channel, Common, TuneRequest, Exclusive, RealTime, Nothing}
use Rattle.midi_wire.specs.declared.status.Width.TheVariants.{One, Two}
use Rattle.midi_wire.specs.Messages.{begins, all_data, IsTail, IsMessage}
use Rattle.log_forms.specs.Laws.{is_bytes}
use Rattle.log_forms.proofs.Hexed.{and_left, and_right}

abbrev all_bytes : List ℕ → Bool
all_bytes m = list_all (λ x. nat_lt x 256) m

data_is_byte : (b : ℕ) → nat_lt b 128 ≡ true → nat_lt b 256 ≡ true
data_is_byte b e = grind (arith, nat_tests)

data_are_bytes : (bytes : List ℕ) → all_data bytes ≡ true → all_bytes bytes ≡ true
data_are_bytes [] e = refl
data_are_bytes (b ∷ bytes) e =
    ap (λ t. t && all_bytes bytes) (data_is_byte b (and_left (nat_lt b 128) (all_data bytes) e))
    ∙ data_are_bytes bytes (and_right (nat_lt b 128) (all_data bytes) e)

tail_is_bytes : (class : StatusClass) (tail : List ℕ) → IsTail class tail → all_bytes tail ≡ true
tail_is_bytes (Channel One) tail h = data_are_bytes tail (and_right (length tail == 1) (all_data tail) h)
tail_is_bytes (Channel Two) tail h = data_are_bytes tail (and_right (length tail == 2) (all_data tail) h)
tail_is_bytes (Common One) tail h = data_are_bytes tail (and_right (length tail == 1) (all_data tail) h)
tail_is_bytes (Common Two) tail h = data_are_bytes tail (and_right (length tail == 2) (all_data tail) h)
tail_is_bytes TuneRequest tail h = ap all_bytes h
tail_is_bytes Exclusive tail h =
    ap all_bytes h.1 ∙ list_all-append (λ x. nat_lt x 256) h.0 (247 ∷ [])
    ∙ ap (λ t. t && true) (data_are_bytes h.0 h.2)
tail_is_bytes RealTime tail h = ap all_bytes h
tail_is_bytes Nothing tail h = absurd h

-- ---- a status is a byte

not_below : (s k : ℕ) → k ≤ s → nat_lt s k ≡ false
not_below s k h = grind (arith, nat_tests)

not_equal : (s k : ℕ) → k + 1 ≤ s → (s == k) ≡ false
not_equal s k h = grind (arith, nat_tests)

begins_nothing : (s : ℕ) → nat_lt s 256 ≡ false → begins s ≡ Nothing
unfolding begins
begins_nothing s e =
    let high : 256 ≤ s = grind (arith, nat_tests) in
    rw (
      not_below s 128 (omega arith),
      not_below s 192 (omega arith),
      not_below s 224 (omega arith),
      not_below s 240 (omega arith),
      not_equal s 240 (omega arith),
      not_equal s 241 (omega arith),
      not_equal s 242 (omega arith),
      not_equal s 243 (omega arith),
      not_equal s 246 (omega arith),
      not_below s 248 (omega arith),
      not_equal s 249 (omega arith),
      not_equal s 253 (omega arith),
      e,
    ) refl

pub message_is_bytes : (m : List ℕ) → IsMessage m → is_bytes m ≡ true
message_is_bytes [] h = absurd h
message_is_bytes (s ∷ tail) h = go (nat_lt s 256) refl
  where
    go : (t : Bool) → nat_lt s 256 ≡ t → t && all_bytes tail ≡ true
    go true e = tail_is_bytes (begins s) tail h
    go false e = let none : IsTail Nothing tail = subst (λ class. IsTail class tail) (begins_nothing s e) h in absurd none
