-- What is left after a pair is the end of what was left before it.
use Rattle.std.proofs.Common.{◌≡◌, ◌≤◌, ◌<◌, ℕ, ◌+◌, ◌-◌, Bool, true, false, List, [], ◌∷◌, ◌∙◌, length, drop, refl, arith, ap, sym, subst, length-drop}
use Rattle.std.specs.Prelude.{Option, Some, None, Result, Ok, Err, if◌then◌else◌, nat_le, nat_lt, ◌==◌, take}
use Rattle.std.proofs.lemmas.List.{drop-drop, drop_all}
use Rattle.std.proofs.lemmas.Bool.Decides.{leb_tells}
use Rattle.std.proofs.Common.{inl, inr}
use Rattle.midi_wire.specs.declared.status.Width.{Width}
use Rattle.midi_wire.specs.declared.status.Width.TheVariants.{One, Two}
use Rattle.midi_wire.specs.declared.status.StatusClass.{StatusClass}
use Rattle.midi_wire.specs.Messages.{begins, is_status}
use Rattle.midi_wire.specs.declared.status.StatusClass.TheVariants as wire
use Rattle.smf_grammar.specs.Outcomes.{◌>>=◌, fault_unless}
use Rattle.smf_grammar.specs.Quantities.{quantity}
use Rattle.smf_grammar.specs.declared.fault.QuantityFault.{QuantityFault}
use Rattle.smf_grammar.specs.declared.fault.PairFault.TheVariants.{NoPair, Truncated, NoStatus, BadStatus, BadData}
use Rattle.smf_grammar.specs.Pairs.{Voice, Exclusive, Escape, Meta, Pair, cut_or_long, quantity_by, quantity_at, data_byte_at, group_at, voice_by, voice_at, running_at, sized_at, meta_at, event_at, pair_at}

-- the last bytes of the whole
pub record IsRest (xs whole : List ℕ) : Type 0 where
  pub from : ℕ
  pub within : from ≤ length whole
  pub is : xs ≡ drop from whole

pub rest-all : (whole : List ℕ) → IsRest whole whole
rest-all whole = record { from = 0; within = omega arith; is = refl }

pub rest-drop : (n : ℕ) (whole : List ℕ) → IsRest (drop n whole) whole
rest-drop n whole =
    elim (leb_tells n (length whole)) as (λ _. IsRest (drop n whole) whole) [
      | inl w ↦ record { from = n; within = w.1; is = refl }
      | inr w ↦ (let past : length whole < n = w.1 in record { from = length whole; within = omega arith; is = drop_all n whole (omega arith) ∙ sym (drop_all (length whole) whole (omega arith)) })
    ]

pub rest-trans : (xs ys zs : List ℕ) → IsRest xs ys → IsRest ys zs → IsRest xs zs
rest-trans xs ys zs a b =
    let long : length ys ≡ length zs - b.from = ap (λ (l : List ℕ). length l) b.is ∙ length-drop b.from zs in
    let low : a.from ≤ length ys = a.within in
    let high : b.from ≤ length zs = b.within in
    record {
      from = b.from + a.from;
      within = omega arith;
      is = a.is ∙ ap (drop a.from) b.is ∙ drop-drop a.from b.from zs;
    }

pub rest-shorter : (xs whole : List ℕ) → IsRest xs whole → length xs ≤ length whole
rest-shorter xs whole a = let long : length xs ≡ length whole - a.from = ap (λ (l : List ℕ). length l) a.is ∙ length-drop a.from whole in omega arith

-- by its length
pub rest-by-length : (xs whole : List ℕ) → IsRest xs whole → drop (length whole - length xs) whole ≡ xs
rest-by-length xs whole a =
    let long : length xs ≡ length whole - a.from = ap (λ (l : List ℕ). length l) a.is ∙ length-drop a.from whole in
    let low : a.from ≤ length whole = a.within in
    let same : length whole - length xs ≡ a.from = omega arith in
    ap (λ (n : ℕ). drop n whole) same ∙ sym a.is

-- so many last bytes of an end are those of the whole
pub rest-last : (xs whole : List ℕ) (n : ℕ) → IsRest xs whole → n ≤ length xs → drop (length xs - n) xs ≡ drop (length whole - n) whole
rest-last xs whole n a h =
    let long : length xs ≡ length whole - a.from = ap (λ (l : List ℕ). length l) a.is ∙ length-drop a.from whole in
    let low : a.from ≤ length whole = a.within in
    let same : a.from + (length xs - n) ≡ length whole - n = omega arith in
    ap (drop (length xs - n)) a.is ∙ drop-drop (length xs - n) a.from whole ∙ ap (λ (k : ℕ). drop k whole) same

-- ---- readings

abbrev Rests : {A E : Type 0} → List ℕ → Result (A × List ℕ) E → Type 0
Rests {A} whole r = (x : A × List ℕ) → r ≡ Ok x → IsRest x.1 whole

rests-err : {A E : Type 0} (whole : List ℕ) (e : E) → Rests {A = A} whole (Err e)
rests-err whole e x is = let bad : ⊥ = cc in absurd bad

rests-ok : {A E : Type 0} (whole : List ℕ) (y : A × List ℕ) → IsRest y.1 whole → Rests {E = E} whole (Ok y)
rests-ok {A} whole y h x is = let same : y ≡ x = cc in subst (λ (z : A × List ℕ). IsRest z.1 whole) same h

rests-if : {A E : Type 0} (whole : List ℕ) (t : Bool) (r s : Result (A × List ℕ) E) → Rests whole r → Rests whole s → Rests whole (if t then r else s)
rests-if whole true r s p q = p
rests-if whole false r s p q = q

rests-unless : {A E : Type 0} (whole : List ℕ) (t : Bool) (e : E) (r : Result (A × List ℕ) E) → Rests whole r → Rests whole (fault_unless t e r)
rests-unless whole true e r p = p
rests-unless whole false e r p = rests-err whole e

rests-bind : {A B E : Type 0} (whole : List ℕ) (r : Result (A × List ℕ) E) (f : A × List ℕ → Result (B × List ℕ) E) → Rests whole r → ((y : A × List ℕ) → IsRest y.1 whole → Rests whole (f y)) → Rests whole (r >>= f)
rests-bind whole (Ok y) f p q = q y (p y refl)
rests-bind whole (Err e) f p q = rests-err whole e

rests-in : {A E : Type 0} (left whole : List ℕ) (r : Result (A × List ℕ) E) → IsRest left whole → Rests left r → Rests whole r
rests-in left whole r h p x is = rest-trans x.1 left whole (p x is) h

rest-tail : (b : ℕ) (left : List ℕ) → IsRest left (b ∷ left)
rest-tail b left = record { from = 1; within = omega arith; is = refl }

quantity-rests : (left : List ℕ) → Rests left (quantity_at left)
quantity-rests left =
    go (quantity left)
  where
    go : (r : Result (ℕ × ℕ) QuantityFault) → Rests left (quantity_by r left)
    go (Ok found) = rests-ok left (found.0, drop found.1 left) (rest-drop found.1 left)
    go (Err fault) = rests-err left (cut_or_long fault)

byte-rests : (left : List ℕ) → Rests left (data_byte_at left)
byte-rests [] = rests-err [] Truncated
byte-rests (b ∷ left) = rests-if (b ∷ left) (is_status b) (Err BadData) (Ok (b, left)) (rests-err (b ∷ left) BadData) (rests-ok (b ∷ left) (b, left) (rest-tail b left))

group-rests : (w : Width) (left : List ℕ) → Rests left (group_at w left)
unfolding group_at
group-rests One left = rests-bind left (data_byte_at left) (λ first. Ok (first.0 ∷ [], first.1)) (byte-rests left) (λ y k. rests-ok left (y.0 ∷ [], y.1) k)
group-rests Two left =
    rests-bind left (data_byte_at left) (λ first. data_byte_at first.1 >>= λ second. Ok (first.0 ∷ second.0 ∷ [], second.1)) (byte-rests left)
    (λ y k. rests-bind left (data_byte_at y.1) (λ second. Ok (y.0 ∷ second.0 ∷ [], second.1)) (rests-in y.1 left (data_byte_at y.1) k (byte-rests y.1)) (λ z j. rests-ok left (y.0 ∷ z.0 ∷ [], z.1) j))

voice-rests : (status : ℕ) (left : List ℕ) → Rests left (voice_at status left)
unfolding voice_at
voice-rests status left =
    go (begins status)
  where
    go : (k : StatusClass) → Rests left (voice_by k status left)
    go (wire.Channel w) = rests-bind left (group_at w left) (λ group. Ok (Voice status group.0, group.1)) (group-rests w left) (λ y k. rests-ok left (Voice status y.0, y.1) k)
    go (wire.Common w) = rests-err left BadStatus
    go wire.TuneRequest = rests-err left BadStatus
    go wire.Exclusive = rests-err left BadStatus
    go wire.RealTime = rests-err left BadStatus
    go wire.Nothing = rests-err left BadStatus

running-rests : (running : Option ℕ) (left : List ℕ) → Rests left (running_at running left)
running-rests None left = rests-err left NoStatus
running-rests (Some status) left = voice-rests status left

sized-rests : (left : List ℕ) → Rests left (sized_at left)
unfolding sized_at
sized-rests left =
    rests-bind left (quantity_at left) (λ size. fault_unless (nat_le size.0 (length size.1)) Truncated (Ok (take size.0 size.1, drop size.0 size.1))) (quantity-rests left)
    (λ y k. rests-unless left (nat_le y.0 (length y.1)) Truncated (Ok (take y.0 y.1, drop y.0 y.1)) (rests-ok left (take y.0 y.1, drop y.0 y.1) (rest-trans (drop y.0 y.1) y.1 left (rest-drop y.0 y.1) k)))

meta-rests : (left : List ℕ) → Rests left (meta_at left)
unfolding meta_at
meta-rests [] = rests-err [] Truncated
meta-rests (kind ∷ left) = rests-bind (kind ∷ left) (sized_at left) (λ bytes. Ok (Meta kind bytes.0, bytes.1)) (rests-in left (kind ∷ left) (sized_at left) (rest-tail kind left) (sized-rests left)) (λ y k. rests-ok (kind ∷ left) (Meta kind y.0, y.1) k)

event-rests : (running : Option ℕ) (left : List ℕ) → Rests left (event_at running left)
unfolding event_at
event-rests running [] = rests-err [] Truncated
event-rests running (b ∷ left) =
    rests-if (b ∷ left) (nat_lt b 128) _ _ (running-rests running (b ∷ left))
    (rests-if (b ∷ left) (nat_lt b 240) _ _ (rests-in left (b ∷ left) (voice_at b left) (rest-tail b left) (voice-rests b left))
    (rests-if (b ∷ left) (b == 240) _ _ (rests-bind (b ∷ left) (sized_at left) (λ bytes. Ok (Exclusive bytes.0, bytes.1)) (rests-in left (b ∷ left) (sized_at left) (rest-tail b left) (sized-rests left)) (λ y k. rests-ok (b ∷ left) (Exclusive y.0, y.1) k))
    (rests-if (b ∷ left) (b == 247) _ _ (rests-bind (b ∷ left) (sized_at left) (λ bytes. Ok (Escape bytes.0, bytes.1)) (rests-in left (b ∷ left) (sized_at left) (rest-tail b left) (sized-rests left)) (λ y k. rests-ok (b ∷ left) (Escape y.0, y.1) k))
    (rests-if (b ∷ left) (b == 255) _ _ (rests-in left (b ∷ left) (meta_at left) (rest-tail b left) (meta-rests left)) (rests-err (b ∷ left) BadStatus)))))

pub pair-rest : (running : Option ℕ) (left : List ℕ) (x : Pair × List ℕ) → pair_at running left ≡ Ok x → IsRest x.1 left
unfolding pair_at
pair-rest running [] = rests-err [] NoPair
pair-rest running (b ∷ left) =
    rests-bind (b ∷ left) (quantity_at (b ∷ left)) (λ delta. event_at running delta.1 >>= λ event. Ok (record { delta = delta.0; event = event.0 }, event.1)) (quantity-rests (b ∷ left))
    (λ y k. rests-bind (b ∷ left) (event_at running y.1) (λ event. Ok (record { delta = y.0; event = event.0 }, event.1)) (rests-in y.1 (b ∷ left) (event_at running y.1) k (event-rests running y.1)) (λ z j. rests-ok (b ∷ left) (record { delta = y.0; event = z.0 }, z.1) j))
