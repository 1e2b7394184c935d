-- Each item takes some bytes.
use Rattle.std.proofs.Common.{◌≡◌, ◌≢◌, ◌≤◌, ◌<◌, ℕ, suc, ◌-◌, Bool, true, false, List, [], ◌∷◌, length, take, drop, refl, arith, length-drop, ap}
use Rattle.std.specs.Prelude.{Option, Some, None, Result, Ok, Err, if◌then◌else◌, nat_le, nat_lt, ◌==◌, codes}
use Rattle.std.proofs.lemmas.Bool.{eq-eqb, leb-true}
use Rattle.midi_wire.specs.declared.status.Width.{Width}
use Rattle.midi_wire.specs.declared.status.Width.TheVariants.{One, Two}
use Rattle.midi_wire.specs.declared.status.StatusClass.{StatusClass}
use Rattle.midi_wire.specs.Messages.{begins, is_status}
use Rattle.midi_wire.specs.declared.status.StatusClass.TheVariants as wire
use Rattle.smf_grammar.specs.Outcomes.{◌>>=◌, fault_unless}
use Rattle.smf_grammar.specs.Quantities.{continuation_count, septets, quantity}
use Rattle.smf_grammar.specs.declared.fault.QuantityFault.{QuantityFault}
use Rattle.smf_grammar.specs.declared.fault.QuantityFault.TheVariants.{Short, Long}
use Rattle.smf_grammar.specs.declared.fault.PairFault.{PairFault}
use Rattle.smf_grammar.specs.declared.fault.PairFault.TheVariants.{Truncated, LongQuantity, NoStatus, BadStatus, BadData}
use Rattle.smf_grammar.specs.Pairs.{Voice, Exclusive, Escape, Meta, Pair, quantity_by, quantity_at, data_byte_at, group_at, voice_by, voice_at, running_at, sized_at, meta_at, event_at, pair_at}
use Rattle.smf_grammar.specs.Chunks.{Chunk, starts, chunk_at}
use Rattle.smf_grammar.specs.declared.fault.ChunkFault.{ChunkFault}
use Rattle.smf_grammar.specs.declared.fault.ChunkFault.TheVariants.{Missing, Cut}
use Rattle.byteorder.specs.Endian.{big_number}
use Rattle.smf_grammar.proofs.Binds.{Bound, bind-ok, Shortens, shortens-err, shortens-ok, shortens-if, shortens-unless, shortens-bind}

pub continued-within : (bytes : List ℕ) → continuation_count bytes ≤ length bytes
continued-within [] = omega arith
continued-within (b ∷ bytes) =
    go (is_status b) (continued-within bytes)
  where
    go : (t : Bool) → continuation_count bytes ≤ length bytes → (if t then suc (continuation_count bytes) else 0) ≤ suc (length bytes)
    go true h = omega arith
    go false h = omega arith

size_of : Result (ℕ × ℕ) QuantityFault → ℕ
size_of (Ok x) = x.1
size_of (Err x) = 0

abbrev SizedBy : List ℕ → ℕ → Type 0
SizedBy left size = (0 < size) × (size ≤ length left)

pub quantity-sized : (left : List ℕ) (found : ℕ × ℕ) → quantity left ≡ Ok found → (0 < found.1) × (found.1 ≤ length left)
unfolding quantity size_of
quantity-sized left found e =
    go (nat_le 4 (continuation_count left)) (continuation_count left == length left) refl e
  where
    go : (t u : Bool) → (continuation_count left == length left) ≡ u → (if t then Err Long else (if u then Err Short else Ok (septets 0 (take (suc (continuation_count left)) left), suc (continuation_count left)))) ≡ Ok found → (0 < found.1) × (found.1 ≤ length left)
    go true u is e = let bad : ⊥ = cc in absurd bad
    go false true is e = let bad : ⊥ = cc in absurd bad
    go false false is e =
        let size : suc (continuation_count left) ≡ found.1 = ap size_of e in
        let apart : continuation_count left ≡ length left → ⊥ = λ same. (let yes : (continuation_count left == length left) ≡ true = eq-eqb (continuation_count left) (length left) same in cc) in
        let within : continuation_count left ≤ length left = continued-within left in
        (omega arith, omega (arith, apart))

-- a quantity takes a byte at least
pub quantity-shorter : (left : List ℕ) (x : ℕ × List ℕ) → quantity_at left ≡ Ok x → length x.1 < length left
quantity-shorter left x e =
    go (quantity left) refl e
  where
    go : (r : Result (ℕ × ℕ) QuantityFault) → quantity left ≡ r → quantity_by r left ≡ Ok x → length x.1 < length left
    go (Err fault) is e = let bad : ⊥ = cc in absurd bad
    go (Ok found) is e =
        let sized : (0 < found.1) × (found.1 ≤ length left) = quantity-sized left found is in
        let same : drop found.1 left ≡ x.1 = ap (λ (r : Result (ℕ × List ℕ) PairFault). rest_of r) e in
        rw (← same, length-drop) (omega arith)
      where
        rest_of : Result (ℕ × List ℕ) PairFault → List ℕ
        rest_of (Ok y) = y.1
        rest_of (Err y) = []

quantity-shortens : (n : ℕ) (left : List ℕ) → length left ≤ n → Shortens n (quantity_at left)
quantity-shortens n left h x e = let less : length x.1 < length left = quantity-shorter left x e in omega arith

byte-shortens : (n : ℕ) (left : List ℕ) → length left ≤ n → Shortens n (data_byte_at left)
byte-shortens n [] h = shortens-err n Truncated
byte-shortens n (b ∷ left) h = shortens-if n (is_status b) (Err BadData) (Ok (b, left)) (shortens-err n BadData) (shortens-ok n (b, left) (omega arith))

group-shortens : (n : ℕ) (w : Width) (left : List ℕ) → length left ≤ n → Shortens n (group_at w left)
unfolding group_at
group-shortens n One left h = shortens-bind n (data_byte_at left) (λ first. Ok (first.0 ∷ [], first.1)) (byte-shortens n left h) (λ y k. shortens-ok n (y.0 ∷ [], y.1) k)
group-shortens n Two left h =
    shortens-bind n (data_byte_at left) (λ first. data_byte_at first.1 >>= λ second. Ok (first.0 ∷ second.0 ∷ [], second.1)) (byte-shortens n left h)
    (λ y k. shortens-bind n (data_byte_at y.1) (λ second. Ok (y.0 ∷ second.0 ∷ [], second.1)) (byte-shortens n y.1 k) (λ z j. shortens-ok n (y.0 ∷ z.0 ∷ [], z.1) j))

voice-shortens : (n status : ℕ) (left : List ℕ) → length left ≤ n → Shortens n (voice_at status left)
unfolding voice_at
voice-shortens n status left h =
    go (begins status)
  where
    go : (k : StatusClass) → Shortens n (voice_by k status left)
    go (wire.Channel w) = shortens-bind n (group_at w left) (λ group. Ok (Voice status group.0, group.1)) (group-shortens n w left h) (λ y k. shortens-ok n (Voice status y.0, y.1) k)
    go (wire.Common w) = shortens-err n BadStatus
    go wire.TuneRequest = shortens-err n BadStatus
    go wire.Exclusive = shortens-err n BadStatus
    go wire.RealTime = shortens-err n BadStatus
    go wire.Nothing = shortens-err n BadStatus

running-shortens : (n : ℕ) (running : Option ℕ) (left : List ℕ) → length left ≤ n → Shortens n (running_at running left)
running-shortens n None left h = shortens-err n NoStatus
running-shortens n (Some status) left h = voice-shortens n status left h

sized-shortens : (n : ℕ) (left : List ℕ) → length left ≤ n → Shortens n (sized_at left)
unfolding sized_at
sized-shortens n left h =
    shortens-bind n (quantity_at left) (λ size. fault_unless (nat_le size.0 (length size.1)) Truncated (Ok (take size.0 size.1, drop size.0 size.1))) (quantity-shortens n left h)
    (λ y k. shortens-unless n (nat_le y.0 (length y.1)) Truncated (Ok (take y.0 y.1, drop y.0 y.1)) (λ _. shortens-ok n (take y.0 y.1, drop y.0 y.1) (rw length-drop (omega arith))))

meta-shortens : (n : ℕ) (left : List ℕ) → length left ≤ n → Shortens n (meta_at left)
unfolding meta_at
meta-shortens n [] h = shortens-err n Truncated
meta-shortens n (kind ∷ left) h = shortens-bind n (sized_at left) (λ bytes. Ok (Meta kind bytes.0, bytes.1)) (sized-shortens n left (omega arith)) (λ y k. shortens-ok n (Meta kind y.0, y.1) k)

pub event-shortens : (n : ℕ) (running : Option ℕ) (left : List ℕ) → length left ≤ n → Shortens n (event_at running left)
unfolding event_at
event-shortens n running [] h = shortens-err n Truncated
event-shortens n running (b ∷ left) h =
    let less : length left ≤ n = omega arith in
    shortens-if n (nat_lt b 128) _ _ (running-shortens n running (b ∷ left) h)
    (shortens-if n (nat_lt b 240) _ _ (voice-shortens n b left less)
    (shortens-if n (b == 240) _ _ (shortens-bind n (sized_at left) (λ bytes. Ok (Exclusive bytes.0, bytes.1)) (sized-shortens n left less) (λ y k. shortens-ok n (Exclusive y.0, y.1) k))
    (shortens-if n (b == 247) _ _ (shortens-bind n (sized_at left) (λ bytes. Ok (Escape bytes.0, bytes.1)) (sized-shortens n left less) (λ y k. shortens-ok n (Escape y.0, y.1) k))
    (shortens-if n (b == 255) _ _ (meta-shortens n left less) (shortens-err n BadStatus)))))

-- a pair takes a byte at least
pub pair-shorter : (running : Option ℕ) (left : List ℕ) (x : Pair × List ℕ) → pair_at running left ≡ Ok x → length x.1 < length left
unfolding pair_at
pair-shorter running [] x e = let bad : ⊥ = cc in absurd bad
pair-shorter running (b ∷ left) x e =
    let delta : Bound (quantity_at (b ∷ left)) (λ delta. event_at running delta.1 >>= λ event. Ok (record { delta = delta.0; event = event.0 }, event.1)) x = bind-ok _ _ _ e in
    let shorter : length delta.value.1 < length (b ∷ left) = quantity-shorter (b ∷ left) delta.value delta.first in
    let event : Bound (event_at running delta.value.1) (λ event. Ok (record { delta = delta.value.0; event = event.0 }, event.1)) x = bind-ok _ _ _ delta.next in
    let less : length event.value.1 ≤ length delta.value.1 = event-shortens (length delta.value.1) running delta.value.1 (omega arith) event.value event.first in
    let same : event.value.1 ≡ x.1 = ap (λ (r : Result (Pair × List ℕ) PairFault). rest_of r) event.next in
    rw (← same) (omega arith)
  where
    rest_of : Result (Pair × List ℕ) PairFault → List ℕ
    rest_of (Ok y) = y.1
    rest_of (Err y) = []

-- so does a chunk
pub chunk-shorter : (left : List ℕ) (x : Chunk × List ℕ) → chunk_at left ≡ Ok x → length x.1 < length left
unfolding chunk_at
chunk-shorter left x e =
    go (nat_le 8 (length left)) (nat_le (big_number 4 (drop 4 left)) (length (drop 8 left))) refl e
  where
    rest_of : Result (Chunk × List ℕ) ChunkFault → List ℕ
    rest_of (Ok y) = y.1
    rest_of (Err y) = []

    go : (t u : Bool) → nat_le 8 (length left) ≡ t → fault_unless t Missing (fault_unless u Cut (Ok (record { is_track = starts (codes "MTrk") left; content = take (big_number 4 (drop 4 left)) (drop 8 left) }, drop (big_number 4 (drop 4 left)) (drop 8 left)))) ≡ Ok x → length x.1 < length left
    go false u is e = let bad : ⊥ = cc in absurd bad
    go true false is e = let bad : ⊥ = cc in absurd bad
    go true true is e =
        let long : 8 ≤ length left = leb-true 8 (length left) is in
        let same : drop (big_number 4 (drop 4 left)) (drop 8 left) ≡ x.1 = ap (λ (r : Result (Chunk × List ℕ) ChunkFault). rest_of r) e in
        rw (← same, length-drop, length-drop) (omega arith)

-- a quantity by what it leaves
pub quantity-left : (left : List ℕ) (x : ℕ × List ℕ) → quantity_at left ≡ Ok x → quantity left ≡ Ok (x.0, length left - length x.1)
quantity-left left x e =
    go (quantity left) refl e
  where
    value_of : Result (ℕ × List ℕ) PairFault → ℕ
    value_of (Ok y) = y.0
    value_of (Err y) = 0

    rest_of : Result (ℕ × List ℕ) PairFault → List ℕ
    rest_of (Ok y) = y.1
    rest_of (Err y) = []

    go : (r : Result (ℕ × ℕ) QuantityFault) → quantity left ≡ r → quantity_by r left ≡ Ok x → r ≡ Ok (x.0, length left - length x.1)
    go (Err fault) is e = let bad : ⊥ = cc in absurd bad
    go (Ok found) is e =
        let sized : (0 < found.1) × (found.1 ≤ length left) = quantity-sized left found is in
        let value : found.0 ≡ x.0 = ap (λ (r : Result (ℕ × List ℕ) PairFault). value_of r) e in
        let rest : drop found.1 left ≡ x.1 = ap (λ (r : Result (ℕ × List ℕ) PairFault). rest_of r) e in
        let size : found.1 ≡ length left - length x.1 = rw (← rest, length-drop) (omega arith) in
        rw (← value, ← size) refl

pub quantity-long : (left : List ℕ) → quantity_at left ≡ Err LongQuantity → quantity left ≡ Err Long
quantity-long left e =
    go (quantity left) refl e
  where
    go : (r : Result (ℕ × ℕ) QuantityFault) → quantity left ≡ r → quantity_by r left ≡ Err LongQuantity → r ≡ Err Long
    go (Ok found) is e = cc
    go (Err Short) is e = cc
    go (Err Long) is e = refl

pub quantity-short : (left : List ℕ) (x : PairFault) → x ≢ LongQuantity → quantity_at left ≡ Err x → quantity left ≡ Err Short
quantity-short left x ne e =
    go (quantity left) refl e
  where
    go : (r : Result (ℕ × ℕ) QuantityFault) → quantity left ≡ r → quantity_by r left ≡ Err x → r ≡ Err Short
    go (Ok found) is e = cc
    go (Err Short) is e = refl
    go (Err Long) is e = let same : x ≡ LongQuantity = cc in absurd (ne same)
