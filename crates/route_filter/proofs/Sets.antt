-- Sets of kinds and of channels: what is in two of them.
use Rattle.std.proofs.Common.{◌≡◌, ℕ, zero, suc, ◌*◌, ◌%◌, ◌^◌, ◌<◌, Bool, true, false, min, refl, sym, ap, ◌∙◌, arith}
use Rattle.std.specs.Prelude.{◌&&◌, ◌==◌, not, nat_le, bit_and}
use Rattle.std.specs.Int.{bit_at}
use Rattle.std.proofs.lemmas.Bool.Decides.{nat_tests}
use Rattle.std.proofs.lemmas.Nat.{pow_pos, and_comm, and_mask}
use Rattle.std.proofs.lemmas.Nat.Bits.{and_pow, bit_at_and, bit_at-lt}
use Rattle.midi_wire.specs.declared.kind.Kind.{Kind}
use Rattle.midi_wire.specs.declared.kind.Kind.TheVariants.{NoteOff, NoteOn, PolyPressure, ControlChange, ProgramChange, ChannelPressure, PitchBend, SystemCommon, RealTime, Exclusive}
use Rattle.route_filter.specs.Rules.{kind_bit, has_kind, has_channel}
use Rattle.route_filter.specs.Passing.{has_note}

multiple : (x p : ℕ) → 0 < p → not (x * p == 0) ≡ not (x == 0)
multiple zero p l = ap (λ (k : ℕ). not (k == 0)) (let e : 0 * p ≡ 0 = omega arith in e)
multiple (suc x) p l = grind (arith, nat_tests)

-- a set has a number where that bit is one
by-bit : (x n : ℕ) → has_channel x n ≡ not (bit_at x n == 0)
by-bit x n = ap (λ (k : ℕ). not (k == 0)) (and_pow x n) ∙ multiple (bit_at x n) (2 ^ n) (pow_pos n)

both-ones : (x y : ℕ) → not (min x y == 0) ≡ (not (x == 0) && not (y == 0))
both-ones x y = grind (arith, nat_tests)

pub both-channels : (a b n : ℕ) → has_channel (bit_and a b) n ≡ (has_channel a n && has_channel b n)
both-channels a b n =
    by-bit (bit_and a b) n ∙ ap (λ (k : ℕ). not (k == 0)) (bit_at_and a b n)
    ∙ both-ones (bit_at a n) (bit_at b n)
    ∙ ap (λ (t : Bool). t && not (bit_at b n == 0)) (sym (by-bit a n)) ∙ ap (λ (t : Bool). has_channel a n && t) (sym (by-bit b n))

-- all of a power of two is in a set where that bit is one
same-multiple : (b p : ℕ) → 0 < p → b < 2 → (b * p == p) ≡ not (b == 0)
same-multiple zero p l h = grind (arith, nat_tests)
same-multiple (suc zero) p l h = grind (arith, nat_tests)
same-multiple (suc (suc b)) p l h = absurd (omega arith)

contains-bit : (x n : ℕ) → (bit_and x (2 ^ n) == 2 ^ n) ≡ has_channel x n
contains-bit x n =
    ap (λ (k : ℕ). k == 2 ^ n) (and_pow x n) ∙ same-multiple (bit_at x n) (2 ^ n) (pow_pos n) (bit_at-lt x n)
    ∙ sym (by-bit x n)

pub contains-kind : (x : ℕ) (k : Kind) → (bit_and x (kind_bit k) == kind_bit k) ≡ has_kind x k
contains-kind x NoteOff = contains-bit x 0
contains-kind x NoteOn = contains-bit x 1
contains-kind x PolyPressure = contains-bit x 2
contains-kind x ControlChange = contains-bit x 3
contains-kind x ProgramChange = contains-bit x 4
contains-kind x ChannelPressure = contains-bit x 5
contains-kind x PitchBend = contains-bit x 6
contains-kind x SystemCommon = contains-bit x 7
contains-kind x RealTime = contains-bit x 8
contains-kind x Exclusive = contains-bit x 9

in-range : (x : ℕ) → (x % 1024 == x) ≡ nat_le x 1023
in-range x = grind (arith, nat_tests)

not-unknown : (t : Bool) → not (not t) ≡ t
not-unknown true = refl
not-unknown false = refl

-- a set of known kinds is a number up to that of all kinds
pub known-kinds : (x : ℕ) (unknown : Bool) → unknown ≡ not (bit_and 1023 x == x) → not unknown ≡ nat_le x 1023
known-kinds x unknown e =
    ap not e ∙ not-unknown (bit_and 1023 x == x)
    ∙ ap (λ (k : ℕ). k == x) (and_comm 1023 x ∙ and_mask x 10) ∙ in-range x

pub both-kinds : (a b : ℕ) (k : Kind) → has_kind (bit_and a b) k ≡ (has_kind a k && has_kind b k)
both-kinds a b NoteOff = both-channels a b 0
both-kinds a b NoteOn = both-channels a b 1
both-kinds a b PolyPressure = both-channels a b 2
both-kinds a b ControlChange = both-channels a b 3
both-kinds a b ProgramChange = both-channels a b 4
both-kinds a b ChannelPressure = both-channels a b 5
both-kinds a b PitchBend = both-channels a b 6
both-kinds a b SystemCommon = both-channels a b 7
both-kinds a b RealTime = both-channels a b 8
both-kinds a b Exclusive = both-channels a b 9

-- the kinds without a note
without-note : (k : Kind) → has_kind 1016 k ≡ not (has_note k)
without-note NoteOff = refl
without-note NoteOn = refl
without-note PolyPressure = refl
without-note ControlChange = refl
without-note ProgramChange = refl
without-note ChannelPressure = refl
without-note PitchBend = refl
without-note SystemCommon = refl
without-note RealTime = refl
without-note Exclusive = refl

unless : (t u v : Bool) → t ≡ (u && not v) → (v ≡ true → t ≡ false) × (v ≡ false → t ≡ u)
unless t true true e = (λ _. e, λ f. cc)
unless t true false e = (λ f. cc, λ _. e)
unless t false v e = (λ _. e, λ _. e)

-- without those with a note, the others stay
pub kinds-left : (a : ℕ) (k : Kind) → (has_note k ≡ true → has_kind (bit_and a 1016) k ≡ false) × (has_note k ≡ false → has_kind (bit_and a 1016) k ≡ has_kind a k)
kinds-left a k = unless _ _ _ (both-kinds a 1016 k ∙ ap (λ (t : Bool). has_kind a k && t) (without-note k))
