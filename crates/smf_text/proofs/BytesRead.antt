-- What is read of bytes has no other numbers than bytes.
use Rattle.std.proofs.Common.{◌≡◌, ℕ, zero, suc, Bool, true, false, List, [], ◌∷◌, ◌++◌, take, drop, length, refl, sym, subst}
use Rattle.std.specs.Prelude.{Option, Some, None, Result, Ok, Err, if◌then◌else◌, IsTrue, nat_le, nat_lt, ◌==◌, ◌&&◌, codes}
use Rattle.byteorder.specs.Endian.{big_number}
use Rattle.midi_wire.specs.declared.status.Width.{Width}
use Rattle.midi_wire.specs.declared.status.Width.TheVariants.{One, Two}
use Rattle.midi_wire.specs.declared.status.StatusClass.{StatusClass}
use Rattle.midi_wire.specs.declared.status.StatusClass.TheVariants as wire
use Rattle.midi_wire.specs.Messages.{begins, is_status}
use Rattle.smf_grammar.specs.Outcomes.{◌>>=◌, fault_unless}
use Rattle.smf_grammar.specs.Quantities.{quantity}
use Rattle.smf_grammar.specs.declared.fault.QuantityFault.{QuantityFault}
use Rattle.smf_grammar.specs.declared.fault.SmfFault.{SmfFault}
use Rattle.smf_grammar.specs.declared.fault.SmfFault.TheVariants.{TooLarge, NotMidi, ShortHeader}
use Rattle.smf_grammar.specs.declared.fault.PairFault.TheVariants.{NoPair, Truncated, NoStatus, BadStatus, BadData}
use Rattle.smf_grammar.specs.Pairs.{TrackEvent, Voice, Exclusive, Escape, Meta, Pair, running_after, cut_or_long, quantity_by, quantity_at, data_byte_at, group_at, voice_by, voice_at, running_at, sized_at, meta_at, event_at, pair_at}
use Rattle.smf_grammar.specs.Chunks.{most_bytes, starts, is_long_enough, Header, header_of, header_at, size_at, Chunk, chunk_of, chunk_at}
use Rattle.smf_grammar.specs.Files.{ArePairs, IsTrack, Item, Other, Track, tracks_in, AreChunks, MidiFile, IsFile}
use Rattle.smf_grammar.specs.Written.{all_bytes}

abbrev pub AreBytes : List ℕ → Type 0
AreBytes bytes = IsTrue (all_bytes bytes)

pub both : (a b : Bool) → IsTrue a → IsTrue b → IsTrue (a && b)
both a b p q = rw (p, q) refl

pub each : (a b : Bool) → IsTrue (a && b) → IsTrue a × IsTrue b
each true b h = (refl, h)
each false b h = let bad : ⊥ = cc in absurd bad

bytes-take : (n : ℕ) (xs : List ℕ) → AreBytes xs → AreBytes (take n xs)
bytes-take zero xs h = refl
bytes-take (suc n) [] h = refl
bytes-take (suc n) (x ∷ xs) h = let parts : IsTrue (nat_lt x 256) × AreBytes xs = each (nat_lt x 256) (all_bytes xs) h in both (nat_lt x 256) (all_bytes (take n xs)) parts.0 (bytes-take n xs parts.1)

bytes-drop : (n : ℕ) (xs : List ℕ) → AreBytes xs → AreBytes (drop n xs)
bytes-drop zero xs h = h
bytes-drop (suc n) [] h = refl
bytes-drop (suc n) (x ∷ xs) h = bytes-drop n xs (each (nat_lt x 256) (all_bytes xs) h).1

-- ---- one item after another

-- what is read is so, and bytes are left
abbrev Reads : {A E : Type 0} → (A → Type 0) → Result (A × List ℕ) E → Type 0
Reads {A} P r = (x : A × List ℕ) → r ≡ Ok x → P x.0 × AreBytes x.1

reads-err : {A E : Type 0} (P : A → Type 0) (e : E) → Reads P (Err e)
reads-err P e x is = let bad : ⊥ = cc in absurd bad

reads-ok : {A E : Type 0} (P : A → Type 0) (y : A × List ℕ) → P y.0 → AreBytes y.1 → Reads {E = E} P (Ok y)
reads-ok {A = A} P y h k x is = let same : y ≡ x = cc in subst (λ (z : A × List ℕ). P z.0 × AreBytes z.1) same (h, k)

reads-if : {A E : Type 0} (P : A → Type 0) (t : Bool) (r s : Result (A × List ℕ) E) → Reads P r → Reads P s → Reads P (if t then r else s)
reads-if P true r s p q = p
reads-if P false r s p q = q

reads-unless : {A E : Type 0} (P : A → Type 0) (t : Bool) (e : E) (r : Result (A × List ℕ) E) → Reads P r → Reads P (fault_unless t e r)
reads-unless P true e r p = p
reads-unless P false e r p = reads-err P e

reads-bind : {A B E : Type 0} (P : A → Type 0) (Q : B → Type 0) (r : Result (A × List ℕ) E) (f : A × List ℕ → Result (B × List ℕ) E) → Reads P r → ((y : A × List ℕ) → P y.0 → AreBytes y.1 → Reads Q (f y)) → Reads Q (r >>= f)
reads-bind P Q (Ok y) f p q = let h : P y.0 × AreBytes y.1 = p y refl in q y h.0 h.1
reads-bind P Q (Err e) f p q = reads-err Q e

abbrev Any : ℕ → Type 0
Any n = Unit {0}

abbrev IsByte : ℕ → Type 0
IsByte b = IsTrue (nat_lt b 256)

-- the bytes of an event
abbrev pub event_bytes : TrackEvent → List ℕ
event_bytes (Voice status payload) = status ∷ payload
event_bytes (Exclusive bytes) = bytes
event_bytes (Escape bytes) = bytes
event_bytes (Meta kind bytes) = kind ∷ bytes

abbrev pub HasBytes : TrackEvent → Type 0
HasBytes event = AreBytes (event_bytes event)

abbrev IsByteIf : Option ℕ → Type 0
IsByteIf None = Unit {0}
IsByteIf (Some status) = IsByte status

quantity-reads : (left : List ℕ) → AreBytes left → Reads Any (quantity_at left)
quantity-reads left h = go (quantity left)
  where
    go : (r : Result (ℕ × ℕ) QuantityFault) → Reads Any (quantity_by r left)
    go (Ok found) = reads-ok Any (found.0, drop found.1 left) tt (bytes-drop found.1 left h)
    go (Err fault) = reads-err Any (cut_or_long fault)

byte-reads : (left : List ℕ) → AreBytes left → Reads IsByte (data_byte_at left)
byte-reads [] h = reads-err IsByte Truncated
byte-reads (b ∷ left) h = let parts : IsByte b × AreBytes left = each (nat_lt b 256) (all_bytes left) h in reads-if IsByte (is_status b) (Err BadData) (Ok (b, left)) (reads-err IsByte BadData) (reads-ok IsByte (b, left) parts.0 parts.1)

group-reads : (w : Width) (left : List ℕ) → AreBytes left → Reads AreBytes (group_at w left)
unfolding group_at
group-reads One left h = reads-bind IsByte AreBytes (data_byte_at left) (λ first. Ok (first.0 ∷ [], first.1)) (byte-reads left h) (λ y k j. reads-ok AreBytes (y.0 ∷ [], y.1) (both (nat_lt y.0 256) true k refl) j)
group-reads Two left h =
    reads-bind IsByte AreBytes (data_byte_at left) (λ first. data_byte_at first.1 >>= λ second. Ok (first.0 ∷ second.0 ∷ [], second.1)) (byte-reads left h)
    (λ y k j. reads-bind IsByte AreBytes (data_byte_at y.1) (λ second. Ok (y.0 ∷ second.0 ∷ [], second.1)) (byte-reads y.1 j)
    (λ z l i. reads-ok AreBytes (y.0 ∷ z.0 ∷ [], z.1) (both (nat_lt y.0 256) (nat_lt z.0 256 && true) k (both (nat_lt z.0 256) true l refl)) i))

voice-reads : (status : ℕ) (left : List ℕ) → IsByte status → AreBytes left → Reads HasBytes (voice_at status left)
unfolding voice_at
voice-reads status left s h = go (begins status)
  where
    go : (k : StatusClass) → Reads HasBytes (voice_by k status left)
    go (wire.Channel w) =
        reads-bind AreBytes HasBytes (group_at w left) (λ group. Ok (Voice status group.0, group.1)) (group-reads w left h) (λ y k j. reads-ok HasBytes (Voice status y.0, y.1) (both (nat_lt status 256) (all_bytes y.0) s k) j)
    go (wire.Common w) = reads-err HasBytes BadStatus
    go wire.TuneRequest = reads-err HasBytes BadStatus
    go wire.Exclusive = reads-err HasBytes BadStatus
    go wire.RealTime = reads-err HasBytes BadStatus
    go wire.Nothing = reads-err HasBytes BadStatus

running-reads : (running : Option ℕ) (left : List ℕ) → IsByteIf running → AreBytes left → Reads HasBytes (running_at running left)
running-reads None left s h = reads-err HasBytes NoStatus
running-reads (Some status) left s h = voice-reads status left s h

sized-reads : (left : List ℕ) → AreBytes left → Reads AreBytes (sized_at left)
unfolding sized_at
sized-reads left h =
    reads-bind Any AreBytes (quantity_at left) (λ size. fault_unless (nat_le size.0 (length size.1)) Truncated (Ok (take size.0 size.1, drop size.0 size.1))) (quantity-reads left h)
    (λ y k j. reads-unless AreBytes (nat_le y.0 (length y.1)) Truncated (Ok (take y.0 y.1, drop y.0 y.1)) (reads-ok AreBytes (take y.0 y.1, drop y.0 y.1) (bytes-take y.0 y.1 j) (bytes-drop y.0 y.1 j)))

meta-reads : (left : List ℕ) → AreBytes left → Reads HasBytes (meta_at left)
unfolding meta_at
meta-reads [] h = reads-err HasBytes Truncated
meta-reads (kind ∷ left) h =
    let parts : IsByte kind × AreBytes left = each (nat_lt kind 256) (all_bytes left) h in
    reads-bind AreBytes HasBytes (sized_at left) (λ bytes. Ok (Meta kind bytes.0, bytes.1)) (sized-reads left parts.1) (λ y k j. reads-ok HasBytes (Meta kind y.0, y.1) (both (nat_lt kind 256) (all_bytes y.0) parts.0 k) j)

event-reads : (running : Option ℕ) (left : List ℕ) → IsByteIf running → AreBytes left → Reads HasBytes (event_at running left)
unfolding event_at
event-reads running [] s h = reads-err HasBytes Truncated
event-reads running (b ∷ left) s h =
    let parts : IsByte b × AreBytes left = each (nat_lt b 256) (all_bytes left) h in
    reads-if HasBytes (nat_lt b 128) _ _ (running-reads running (b ∷ left) s h)
    (reads-if HasBytes (nat_lt b 240) _ _ (voice-reads b left parts.0 parts.1)
    (reads-if HasBytes (b == 240) _ _ (reads-bind AreBytes HasBytes (sized_at left) (λ bytes. Ok (Exclusive bytes.0, bytes.1)) (sized-reads left parts.1) (λ y k j. reads-ok HasBytes (Exclusive y.0, y.1) k j))
    (reads-if HasBytes (b == 247) _ _ (reads-bind AreBytes HasBytes (sized_at left) (λ bytes. Ok (Escape bytes.0, bytes.1)) (sized-reads left parts.1) (λ y k j. reads-ok HasBytes (Escape y.0, y.1) k j))
    (reads-if HasBytes (b == 255) _ _ (meta-reads left parts.1) (reads-err HasBytes BadStatus)))))

abbrev PairHasBytes : Pair → Type 0
PairHasBytes p = HasBytes p.event

pair-reads : (running : Option ℕ) (left : List ℕ) → IsByteIf running → AreBytes left → Reads PairHasBytes (pair_at running left)
unfolding pair_at
pair-reads running [] s h = reads-err PairHasBytes NoPair
pair-reads running (b ∷ left) s h =
    reads-bind Any PairHasBytes (quantity_at (b ∷ left)) (λ delta. event_at running delta.1 >>= λ event. Ok (record { delta = delta.0; event = event.0 }, event.1)) (quantity-reads (b ∷ left) h)
    (λ y k j. reads-bind HasBytes PairHasBytes (event_at running y.1) (λ event. Ok (record { delta = y.0; event = event.0 }, event.1)) (event-reads running y.1 s j) (λ z l i. reads-ok PairHasBytes (record { delta = y.0; event = z.0 }, z.1) l i))

-- ---- tracks

abbrev pub AllHaveBytes : List Pair → Type 0
AllHaveBytes [] = Unit {0}
AllHaveBytes (p ∷ ps) = HasBytes p.event × AllHaveBytes ps

after-byte : (event : TrackEvent) → HasBytes event → IsByteIf (running_after event)
after-byte (Voice status payload) h = (each (nat_lt status 256) (all_bytes payload) h).0
after-byte (Exclusive bytes) h = tt
after-byte (Escape bytes) h = tt
after-byte (Meta kind bytes) h = tt

-- pairs and the one after them
pairs-read : (ps : List Pair) (running after : Option ℕ) (left rest unread : List ℕ) (last : Pair) → ArePairs running left ps after rest → pair_at after rest ≡ Ok (last, unread) → IsByteIf running → AreBytes left → AllHaveBytes (ps ++ last ∷ [])
pairs-read [] running after left rest unread last stand next s h =
    let first : pair_at running left ≡ Ok (last, unread) = rw (stand.0, stand.1) next in
    ((pair-reads running left s h (last, unread) first).0, tt)
pairs-read (p ∷ ps) running after left rest unread last stand next s h =
    let here : HasBytes p.event × AreBytes stand.0 = pair-reads running left s h (p, stand.0) stand.1 in
    (here.0, pairs-read ps (running_after p.event) after stand.0 rest unread last stand.3 next (after-byte p.event here.0) here.1)

track-read : (content : List ℕ) (ps : List Pair) → IsTrack content ps → AreBytes content → AllHaveBytes ps
track-read content ps w h = subst AllHaveBytes (sym w.whole) (pairs-read w.before None w.after content w.rest w.unread w.last w.stand w.next tt h)

-- ---- files

abbrev ChunkHasBytes : Chunk → Type 0
ChunkHasBytes chunk = AreBytes chunk.content

chunk-reads : (left : List ℕ) → AreBytes left → Reads ChunkHasBytes (chunk_at left)
unfolding chunk_at
chunk-reads left h =
    reads-unless ChunkHasBytes _ _ _ (reads-unless ChunkHasBytes _ _ _ (reads-ok ChunkHasBytes (chunk_of left (size_at left), drop (size_at left) (drop 8 left)) (bytes-take (size_at left) (drop 8 left) (bytes-drop 8 left h)) (bytes-drop (size_at left) (drop 8 left) (bytes-drop 8 left h))))

abbrev pub TracksHaveBytes : List (List Pair) → Type 0
TracksHaveBytes [] = Unit {0}
TracksHaveBytes (ps ∷ tracks) = AllHaveBytes ps × TracksHaveBytes tracks

chunks-read : (items : List Item) (left rest : List ℕ) → AreChunks left items rest → AreBytes left → TracksHaveBytes (tracks_in items)
chunks-read [] left rest stand h = tt
chunks-read (Other ∷ items) left rest stand h =
    let here : AreBytes stand.0.content × AreBytes stand.1 = chunk-reads left h (stand.0, stand.1) stand.2 in
    chunks-read items stand.1 rest stand.4 here.1
chunks-read (Track ps ∷ items) left rest stand h =
    let here : AreBytes stand.0.content × AreBytes stand.1 = chunk-reads left h (stand.0, stand.1) stand.2 in
    (track-read stand.0.content ps stand.3.1 here.0, chunks-read items stand.1 rest stand.4 here.1)

abbrev AnyHeader : Header → Type 0
AnyHeader header = Unit {0}

header-reads : (bytes : List ℕ) → AreBytes bytes → Reads AnyHeader (header_at bytes)
unfolding header_at
header-reads bytes h =
    reads-unless AnyHeader (nat_le (length bytes) most_bytes) TooLarge _ (reads-unless AnyHeader (starts (codes "MThd") bytes) NotMidi _ (reads-unless AnyHeader (is_long_enough bytes) ShortHeader _
    (go (header_of (big_number 2 (drop 8 bytes)) (big_number 2 (drop 10 bytes)) (big_number 2 (drop 12 bytes))))))
  where
    go : (r : Result Header SmfFault) → Reads AnyHeader (r >>= λ header. Ok (header, drop (size_at bytes) (drop 8 bytes)))
    go (Ok header) = reads-ok AnyHeader (header, drop (size_at bytes) (drop 8 bytes)) tt (bytes-drop (size_at bytes) (drop 8 bytes) (bytes-drop 8 bytes h))
    go (Err fault) = reads-err AnyHeader fault

pub file-read : (bytes : List ℕ) (f : MidiFile) → IsFile bytes f → AreBytes bytes → TracksHaveBytes f.tracks
file-read bytes f w h = subst TracksHaveBytes (sym w.tracks) (chunks-read w.items w.after w.unread w.stand (header-reads bytes h (w.header, w.after) w.headed).1)
