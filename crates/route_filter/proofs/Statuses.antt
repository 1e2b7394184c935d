-- The table of kinds and of statuses, and how a status changes its channel.
use Rattle.std.proofs.Common.{◌≡◌, ℕ, ◌-◌, ◌*◌, ◌/◌, ◌%◌, ◌^◌, ◌≤◌, ◌<◌, ◌⊎◌, inl, inr, true, false, refl, sym, ap, ◌∙◌, arith}
use Rattle.std.specs.Prelude.{nat_lt}
use Rattle.std.proofs.lemmas.Bool.{cases_lt}
use Rattle.std.proofs.lemmas.Bool.Decides.{nat_tests}
use Rattle.midi_wire.specs.declared.kind.Kind.{Kind}
use Rattle.midi_wire.specs.declared.kind.Kind.TheVariants.{NoteOff, NoteOn, PolyPressure, ControlChange, ProgramChange, ChannelPressure, PitchBend}
use Rattle.midi_wire.specs.Messages.{begins}
use Rattle.midi_wire.specs.Kinds.{kind_of_status}
use Rattle.midi_wire.proofs.Table.{begins-8, begins-C, begins-E}
use Rattle.route_filter.specs.Rules.{kind_bit}
use Rattle.route_filter.specs.Passing.{has_note}

kind-8 : (s : ℕ) → s < 144 → kind_of_status s ≡ NoteOff
unfolding kind_of_status
kind-8 s l = grind (arith, nat_tests)

kind-9 : (s : ℕ) → 144 ≤ s → s < 160 → kind_of_status s ≡ NoteOn
unfolding kind_of_status
kind-9 s h l = grind (arith, nat_tests)

kind-A : (s : ℕ) → 160 ≤ s → s < 176 → kind_of_status s ≡ PolyPressure
unfolding kind_of_status
kind-A s h l = grind (arith, nat_tests)

kind-B : (s : ℕ) → 176 ≤ s → s < 192 → kind_of_status s ≡ ControlChange
unfolding kind_of_status
kind-B s h l = grind (arith, nat_tests)

kind-C : (s : ℕ) → 192 ≤ s → s < 208 → kind_of_status s ≡ ProgramChange
unfolding kind_of_status
kind-C s h l = grind (arith, nat_tests)

kind-D : (s : ℕ) → 208 ≤ s → s < 224 → kind_of_status s ≡ ChannelPressure
unfolding kind_of_status
kind-D s h l = grind (arith, nat_tests)

kind-E : (s : ℕ) → 224 ≤ s → s < 240 → kind_of_status s ≡ PitchBend
unfolding kind_of_status
kind-E s h l = grind (arith, nat_tests)

note-high : (s : ℕ) → 176 ≤ s → has_note (kind_of_status s) ≡ false
unfolding kind_of_status
note-high s h = grind (arith, nat_tests)

-- a message of the system has no note
pub note-system : (s : ℕ) → 240 ≤ s → has_note (kind_of_status s) ≡ false
unfolding kind_of_status
note-system s h = grind (arith, nat_tests)

-- the messages with a note: 8n, 9n and An
pub note-by-status : (s : ℕ) → nat_lt s 176 ≡ has_note (kind_of_status s)
note-by-status s =
    go (cases_lt s 144) (cases_lt s 160) (cases_lt s 176)
  where
    go : (s < 144) ⊎ (144 ≤ s) → (s < 160) ⊎ (160 ≤ s) → (s < 176) ⊎ (176 ≤ s) → nat_lt s 176 ≡ has_note (kind_of_status s)
    go (inl c) x y = let e : nat_lt s 176 ≡ true = grind (arith, nat_tests) in e ∙ ap has_note (sym (kind-8 s c))
    go (inr c) (inl d) y = let e : nat_lt s 176 ≡ true = grind (arith, nat_tests) in e ∙ ap has_note (sym (kind-9 s c d))
    go (inr c) (inr d) (inl f) = let e : nat_lt s 176 ≡ true = grind (arith, nat_tests) in e ∙ ap has_note (sym (kind-A s d f))
    go (inr c) (inr d) (inr f) = let e : nat_lt s 176 ≡ false = grind (arith, nat_tests) in e ∙ sym (note-high s f)

-- the bit of a channel message's kind
pub bit-by-status : (s : ℕ) → 128 ≤ s → s < 240 → 1 * 2 ^ (s / 16 - 8) % 65536 ≡ kind_bit (kind_of_status s)
bit-by-status s h l =
    go (cases_lt s 144) (cases_lt s 160) (cases_lt s 176) (cases_lt s 192) (cases_lt s 208) (cases_lt s 224)
  where
    of : (k : Kind) (n : ℕ) → kind_of_status s ≡ k → s / 16 - 8 ≡ n → 1 * 2 ^ n % 65536 ≡ kind_bit k → 1 * 2 ^ (s / 16 - 8) % 65536 ≡ kind_bit (kind_of_status s)
    of k n e f g = ap (λ (i : ℕ). 1 * 2 ^ i % 65536) f ∙ g ∙ ap kind_bit (sym e)

    go : (s < 144) ⊎ (144 ≤ s) → (s < 160) ⊎ (160 ≤ s) → (s < 176) ⊎ (176 ≤ s) → (s < 192) ⊎ (192 ≤ s) → (s < 208) ⊎ (208 ≤ s) → (s < 224) ⊎ (224 ≤ s) → 1 * 2 ^ (s / 16 - 8) % 65536 ≡ kind_bit (kind_of_status s)
    go (inl c) x y z u v = of NoteOff 0 (kind-8 s c) (omega arith) refl
    go (inr c) (inl d) y z u v = of NoteOn 1 (kind-9 s c d) (omega arith) refl
    go (inr c) (inr d) (inl f) z u v = of PolyPressure 2 (kind-A s d f) (omega arith) refl
    go (inr c) (inr d) (inr f) (inl g) u v = of ControlChange 3 (kind-B s f g) (omega arith) refl
    go (inr c) (inr d) (inr f) (inr g) (inl i) v = of ProgramChange 4 (kind-C s g i) (omega arith) refl
    go (inr c) (inr d) (inr f) (inr g) (inr i) (inl j) = of ChannelPressure 5 (kind-D s i j) (omega arith) refl
    go (inr c) (inr d) (inr f) (inr g) (inr i) (inr j) = of PitchBend 6 (kind-E s j l) (omega arith) refl

-- ---- another channel: the kind and what the status begins stay

pub kind-stays : (s t : ℕ) → 128 ≤ s → s < 240 → t / 16 ≡ s / 16 → kind_of_status t ≡ kind_of_status s
kind-stays s t h l e =
    go (cases_lt s 144) (cases_lt s 160) (cases_lt s 176) (cases_lt s 192) (cases_lt s 208) (cases_lt s 224)
  where
    go : (s < 144) ⊎ (144 ≤ s) → (s < 160) ⊎ (160 ≤ s) → (s < 176) ⊎ (176 ≤ s) → (s < 192) ⊎ (192 ≤ s) → (s < 208) ⊎ (208 ≤ s) → (s < 224) ⊎ (224 ≤ s) → kind_of_status t ≡ kind_of_status s
    go (inl c) x y z u v = kind-8 t (omega arith) ∙ sym (kind-8 s c)
    go (inr c) (inl d) y z u v = kind-9 t (omega arith) (omega arith) ∙ sym (kind-9 s c d)
    go (inr c) (inr d) (inl f) z u v = kind-A t (omega arith) (omega arith) ∙ sym (kind-A s d f)
    go (inr c) (inr d) (inr f) (inl g) u v = kind-B t (omega arith) (omega arith) ∙ sym (kind-B s f g)
    go (inr c) (inr d) (inr f) (inr g) (inl i) v = kind-C t (omega arith) (omega arith) ∙ sym (kind-C s g i)
    go (inr c) (inr d) (inr f) (inr g) (inr i) (inl j) = kind-D t (omega arith) (omega arith) ∙ sym (kind-D s i j)
    go (inr c) (inr d) (inr f) (inr g) (inr i) (inr j) = kind-E t (omega arith) (omega arith) ∙ sym (kind-E s j l)

pub begins-stays : (s t : ℕ) → 128 ≤ s → s < 240 → t / 16 ≡ s / 16 → begins t ≡ begins s
begins-stays s t h l e =
    go (cases_lt s 192) (cases_lt s 224)
  where
    go : (s < 192) ⊎ (192 ≤ s) → (s < 224) ⊎ (224 ≤ s) → begins t ≡ begins s
    go (inl c) y = begins-8 t (omega arith) (omega arith) ∙ sym (begins-8 s h c)
    go (inr c) (inl d) = begins-C t (omega arith) (omega arith) ∙ sym (begins-C s c d)
    go (inr c) (inr d) = begins-E t (omega arith) (omega arith) ∙ sym (begins-E s d l)
