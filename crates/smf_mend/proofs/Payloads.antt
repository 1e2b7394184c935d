-- An event has no more bytes than what it is read of.
use Rattle.std.proofs.Common.{◌≡◌, ◌≤◌, ◌<◌, ℕ, Bool, true, false, List, [], ◌∷◌, length, take, drop, refl, arith, subst}
use Rattle.std.specs.Prelude.{Option, Some, None, Result, Ok, Err, if◌then◌else◌, nat_lt, nat_le, ◌==◌}
use Rattle.std.proofs.lemmas.Bool.{leb-true}
use Rattle.std.proofs.lemmas.List.{length-take-le}
use Rattle.midi_wire.specs.declared.status.StatusClass.{StatusClass}
use Rattle.midi_wire.specs.declared.status.StatusClass.TheVariants as wire
use Rattle.midi_wire.specs.Messages.{begins}
use Rattle.smf_grammar.specs.Outcomes.{◌>>=◌, fault_unless}
use Rattle.smf_grammar.specs.declared.fault.PairFault.{PairFault}
use Rattle.smf_grammar.specs.declared.fault.PairFault.TheVariants.{Truncated, NoStatus, BadStatus}
use Rattle.smf_grammar.specs.Pairs.{Voice, Exclusive, Escape, Meta, Pair, quantity_at, group_at, voice_by, voice_at, running_at, sized_at, meta_at, event_at, pair_at}
use Rattle.smf_grammar.proofs.Binds.{Bound, bind-ok}
use Rattle.smf_grammar.proofs.Shorter.{quantity-shorter}
use Rattle.smf_mend.specs.Tallies.{payload_size}

-- what is read is no larger by this measure
abbrev Within : {A E : Type 0} → (A → ℕ) → ℕ → Result (A × List ℕ) E → Type 0
Within {A} size n r = (x : A × List ℕ) → r ≡ Ok x → size x.0 ≤ n

within-err : {A E : Type 0} (size : A → ℕ) (n : ℕ) (e : E) → Within size n (Err e)
within-err size n e x is = let bad : ⊥ = cc in absurd bad

within-ok : {A E : Type 0} (size : A → ℕ) (n : ℕ) (y : A × List ℕ) → size y.0 ≤ n → Within {E = E} size n (Ok y)
within-ok {A = A} size n y h x is = let same : y ≡ x = cc in subst (λ (z : A × List ℕ). size z.0 ≤ n) same h

within-if : {A E : Type 0} (size : A → ℕ) (n : ℕ) (t : Bool) (r s : Result (A × List ℕ) E) → Within size n r → Within size n s → Within size n (if t then r else s)
within-if size n true r s p q = p
within-if size n false r s p q = q

within-unless : {A E : Type 0} (size : A → ℕ) (n : ℕ) (t : Bool) (e : E) (r : Result (A × List ℕ) E) → (t ≡ true → Within size n r) → Within size n (fault_unless t e r)
within-unless size n true e r p = p refl
within-unless size n false e r p = within-err size n e

within-bind : {A B E : Type 0} (size : B → ℕ) (n : ℕ) (r : Result (A × List ℕ) E) (f : A × List ℕ → Result (B × List ℕ) E) → ((y : A × List ℕ) → r ≡ Ok y → Within size n (f y)) → Within size n (r >>= f)
within-bind size n (Ok y) f q = q y refl
within-bind size n (Err e) f q = within-err size n e

sized-within : (n : ℕ) (left : List ℕ) → length left ≤ n → Within length n (sized_at left)
unfolding sized_at
sized-within n left h =
    within-bind length n (quantity_at left) (λ size. fault_unless (nat_le size.0 (length size.1)) Truncated (Ok (take size.0 size.1, drop size.0 size.1))) (λ y is.
    let less : length y.1 < length left = quantity-shorter left y is in
    within-unless length n (nat_le y.0 (length y.1)) Truncated (Ok (take y.0 y.1, drop y.0 y.1)) (λ there.
    let low : y.0 ≤ length y.1 = leb-true y.0 (length y.1) there in
    let taken : length (take y.0 y.1) ≡ y.0 = length-take-le y.0 y.1 low in
    within-ok length n (take y.0 y.1, drop y.0 y.1) (omega (arith, taken))))

voice-within : (n status : ℕ) (left : List ℕ) → Within payload_size n (voice_at status left)
unfolding voice_at
voice-within n status left = go (begins status)
  where
    go : (k : StatusClass) → Within payload_size n (voice_by k status left)
    go (wire.Channel w) = within-bind payload_size n (group_at w left) (λ group. Ok (Voice status group.0, group.1)) (λ y is. within-ok payload_size n (Voice status y.0, y.1) (omega arith))
    go (wire.Common w) = within-err payload_size n BadStatus
    go wire.TuneRequest = within-err payload_size n BadStatus
    go wire.Exclusive = within-err payload_size n BadStatus
    go wire.RealTime = within-err payload_size n BadStatus
    go wire.Nothing = within-err payload_size n BadStatus

running-within : (n : ℕ) (running : Option ℕ) (left : List ℕ) → Within payload_size n (running_at running left)
running-within n None left = within-err payload_size n NoStatus
running-within n (Some status) left = voice-within n status left

meta-within : (n : ℕ) (left : List ℕ) → length left ≤ n → Within payload_size n (meta_at left)
unfolding meta_at
meta-within n [] h = within-err payload_size n Truncated
meta-within n (kind ∷ left) h =
    within-bind payload_size n (sized_at left) (λ bytes. Ok (Meta kind bytes.0, bytes.1)) (λ y is. within-ok payload_size n (Meta kind y.0, y.1) (sized-within n left (omega arith) y is))

event-within : (n : ℕ) (running : Option ℕ) (left : List ℕ) → length left ≤ n → Within payload_size n (event_at running left)
unfolding event_at
event-within n running [] h = within-err payload_size n Truncated
event-within n running (b ∷ left) h =
    let less : length left ≤ n = omega arith in
    within-if payload_size n (nat_lt b 128) _ _ (running-within n running (b ∷ left))
    (within-if payload_size n (nat_lt b 240) _ _ (voice-within n b left)
    (within-if payload_size n (b == 240) _ _ (within-bind payload_size n (sized_at left) (λ bytes. Ok (Exclusive bytes.0, bytes.1)) (λ y is. within-ok payload_size n (Exclusive y.0, y.1) (sized-within n left less y is)))
    (within-if payload_size n (b == 247) _ _ (within-bind payload_size n (sized_at left) (λ bytes. Ok (Escape bytes.0, bytes.1)) (λ y is. within-ok payload_size n (Escape y.0, y.1) (sized-within n left less y is)))
    (within-if payload_size n (b == 255) _ _ (meta-within n left less) (within-err payload_size n BadStatus)))))

pub pair-within : (running : Option ℕ) (left more : List ℕ) (p : Pair) → pair_at running left ≡ Ok (p, more) → payload_size p.event ≤ length left
unfolding pair_at
pair-within running [] more p e = let bad : ⊥ = cc in absurd bad
pair-within running (b ∷ left) more p e =
    let delta : Bound (quantity_at (b ∷ left)) (λ d. event_at running d.1 >>= λ x. Ok (record { delta = d.0; event = x.0 }, x.1)) (p, more) = bind-ok _ _ _ e in
    let less : length delta.value.1 < length (b ∷ left) = quantity-shorter (b ∷ left) delta.value delta.first in
    let event : Bound (event_at running delta.value.1) (λ x. Ok (record { delta = delta.value.0; event = x.0 }, x.1)) (p, more) = bind-ok _ _ _ delta.next in
    let next : ◌≡◌ {A = Result (Pair × List ℕ) PairFault} (Ok (record { delta = delta.value.0; event = event.value.0 }, event.value.1)) (Ok (p, more)) = event.next in
    let same : ◌≡◌ {A = Pair × List ℕ} (record { delta = delta.value.0; event = event.value.0 }, event.value.1) (p, more) = cc in
    let small : payload_size event.value.0 ≤ length (b ∷ left) = event-within (length (b ∷ left)) running delta.value.1 (omega arith) event.value event.first in
    subst (λ (x : Pair × List ℕ). payload_size x.0.event ≤ length (b ∷ left)) same small
