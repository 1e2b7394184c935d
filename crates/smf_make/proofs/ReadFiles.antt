-- A file that was read can be written, in no more bytes.
use Rattle.std.proofs.Common.{◌≡◌, ◌≤◌, ◌<◌, ℕ, suc, ◌+◌, ◌*◌, ◌/◌, ◌%◌, Bool, true, false, List, [], ◌∷◌, ◌++◌, length, length-append, length-drop, take, drop, refl, sym, ap, ◌∙◌, subst, arith}
use Rattle.std.specs.Prelude.{if◌then◌else◌, nat_le, nat_lt, ◌==◌, ◌&&◌, Option, Some, None, Result, Ok, Err, codes}
use Rattle.std.specs.List.{AllByRecursion}
use Rattle.std.specs.Option.{option_or}
use Rattle.std.proofs.lemmas.Bool.{le-leb, eq-eqb}
use Rattle.std.proofs.lemmas.Bool.Decides.{nat_tests}
use Rattle.std.proofs.lemmas.List.{length-take-le}
use Rattle.byteorder.specs.Endian.{big_number}
use Rattle.midi_wire.specs.declared.status.Width.{Width}
use Rattle.midi_wire.specs.declared.status.Width.TheVariants.{One, Two}
use Rattle.midi_wire.specs.declared.status.StatusClass.{StatusClass}
use Rattle.midi_wire.specs.declared.status.StatusClass.TheVariants as wire
use Rattle.midi_wire.specs.Messages.{begins, is_status}
use Rattle.smf_grammar.specs.Outcomes.{◌>>=◌, fault_unless}
use Rattle.smf_grammar.specs.Septets.{septets_at}
use Rattle.smf_grammar.specs.declared.fault.PairFault.{PairFault}
use Rattle.smf_grammar.specs.declared.fault.PairFault.TheVariants.{Truncated, LongQuantity, NoStatus, BadStatus, BadData}
use Rattle.smf_grammar.specs.Pairs.{TrackEvent, Voice, Exclusive, Escape, Meta, Pair, running_after, quantity_at, data_byte_at, group_at, voice_by, voice_at, running_at, sized_at, meta_at, event_at, pair_at}
use Rattle.smf_grammar.specs.Texts.{shortest, chunk_text}
use Rattle.smf_grammar.specs.Written.{is_running, sized_text, event_text, pair_text, pairs_text, tracks_text}
use Rattle.smf_grammar.specs.Written.{FileRefusal, is_quantity, all_bytes, are_bytes, has_bytes, can_stand, track_refusal, tracks_refusal, header_text, written_file, file_refusal}
use Rattle.smf_grammar.specs.Seen.{IsRunning, is_event_sound}
use Rattle.smf_grammar.specs.declared.fault.SmfFault.{SmfFault}
use Rattle.smf_grammar.specs.declared.fault.SmfFault.TheVariants.{TooLarge, NotMidi, ShortHeader}
use Rattle.smf_grammar.specs.Chunks.{most_bytes, starts, is_long_enough, Header, header_of, header_at, size_at, Chunk, chunk_of, chunk_at}
use Rattle.smf_grammar.specs.declared.fault.ChunkFault.{ChunkFault}
use Rattle.smf_grammar.specs.declared.fault.ChunkFault.TheVariants.{Missing, Cut}
use Rattle.smf_grammar.specs.Files.{ArePairs, IsTrack, Item, Other, Track, tracks_in, AreChunks, MidiFile, IsFile}
use Rattle.smf_grammar.proofs.Binds.{Bound, bind-ok, unless-ok}
use Rattle.smf_grammar.proofs.Septets.{quantity-septets}
use Rattle.smf_grammar.proofs.Sound.{event-sound, sound-running}
use Rattle.smf_text.proofs.BytesRead.{HasBytes, AllHaveBytes, TracksHaveBytes, file-read}
use Rattle.midi_wire.proofs.Written.{and_true}
use Rattle.smf_make.specs.WrittenParts.{running_end}
use Rattle.smf_make.proofs.PairByPair.{pairs-append, chunk-length}
use Rattle.smf_make.proofs.SpelledBytes.{AreBytes, IsBack, big-back, bytes-drop}
use Rattle.smf_make.proofs.MadeFiles.{IsGoing, track-ends, front-written}
use Rattle.smf_make.proofs.SoundEvents.{passes-test}
use Rattle.smf_make.proofs.FileLines.{of_three, IsOfThree, of-three, can-head}
use Rattle.smf_make.specs.SaidEvents.{can_head}

-- ---- one item after another

-- what is read has no more bytes, by this measure, than it took
abbrev Fits : {A E : Type 0} → (A → ℕ) → ℕ → Result (A × List ℕ) E → Type 0
Fits {A} size n r = (x : A × List ℕ) → r ≡ Ok x → size x.0 + length x.1 ≤ n

fits-err : {A E : Type 0} (size : A → ℕ) (n : ℕ) (e : E) → Fits size n (Err e)
fits-err size n e x is = let bad : ⊥ = cc in absurd bad

fits-ok : {A E : Type 0} (size : A → ℕ) (n : ℕ) (y : A × List ℕ) → size y.0 + length y.1 ≤ n → Fits {E = E} size n (Ok y)
fits-ok {A = A} size n y h x is = let same : y ≡ x = cc in subst (λ (z : A × List ℕ). size z.0 + length z.1 ≤ n) same h

fits-if : {A E : Type 0} (size : A → ℕ) (n : ℕ) (t : Bool) (r s : Result (A × List ℕ) E) → Fits size n r → Fits size n s → Fits size n (if t then r else s)
fits-if size n true r s p q = p
fits-if size n false r s p q = q

fits-unless : {A E : Type 0} (size : A → ℕ) (n : ℕ) (t : Bool) (e : E) (r : Result (A × List ℕ) E) → (t ≡ true → Fits size n r) → Fits size n (fault_unless t e r)
fits-unless size n true e r p = p refl
fits-unless size n false e r p = fits-err size n e

fits-bind : {A B E : Type 0} (size : A → ℕ) (whole : B → ℕ) (n m : ℕ) (r : Result (A × List ℕ) E) (f : A × List ℕ → Result (B × List ℕ) E) → Fits size m r → ((y : A × List ℕ) → r ≡ Ok y → size y.0 + length y.1 ≤ m → Fits whole n (f y)) → Fits whole n (r >>= f)
fits-bind size whole n m (Ok y) f p q = q y refl (p y refl)
fits-bind size whole n m (Err e) f p q = fits-err whole n e

-- ---- quantities

length-of : (n : ℕ) (a b c : Bool) → nat_lt n 128 ≡ a → nat_lt n 16384 ≡ b → nat_lt n 2097152 ≡ c → length (shortest n) ≡ (if a then 1 else (if b then 2 else (if c then 3 else 4)))
unfolding shortest
length-of n true b c e f g = ap (λ (t : Bool). length (if t then (n ∷ []) else (if nat_lt n 16384 then ((128 + n / 128) ∷ n % 128 ∷ []) else (if nat_lt n 2097152 then ((128 + n / 128 / 128) ∷ (128 + n / 128 % 128) ∷ n % 128 ∷ []) else ((128 + n / 128 / 128 / 128) ∷ (128 + n / 128 / 128 % 128) ∷ (128 + n / 128 % 128) ∷ n % 128 ∷ []))))) e
length-of n false b c e f g =
    ap (λ (t : Bool). length (if t then (n ∷ []) else (if nat_lt n 16384 then ((128 + n / 128) ∷ n % 128 ∷ []) else (if nat_lt n 2097152 then ((128 + n / 128 / 128) ∷ (128 + n / 128 % 128) ∷ n % 128 ∷ []) else ((128 + n / 128 / 128 / 128) ∷ (128 + n / 128 / 128 % 128) ∷ (128 + n / 128 % 128) ∷ n % 128 ∷ []))))) e
    ∙ ap (λ (t : Bool). length (if t then ((128 + n / 128) ∷ n % 128 ∷ []) else (if nat_lt n 2097152 then ((128 + n / 128 / 128) ∷ (128 + n / 128 % 128) ∷ n % 128 ∷ []) else ((128 + n / 128 / 128 / 128) ∷ (128 + n / 128 / 128 % 128) ∷ (128 + n / 128 % 128) ∷ n % 128 ∷ [])))) f
    ∙ later b c g
  where
    later : (u v : Bool) → nat_lt n 2097152 ≡ v → length (if u then ((128 + n / 128) ∷ n % 128 ∷ []) else (if nat_lt n 2097152 then ((128 + n / 128 / 128) ∷ (128 + n / 128 % 128) ∷ n % 128 ∷ []) else ((128 + n / 128 / 128 / 128) ∷ (128 + n / 128 / 128 % 128) ∷ (128 + n / 128 % 128) ∷ n % 128 ∷ []))) ≡ (if u then 2 else (if v then 3 else 4))
    later true v k = refl
    later false true k = ap (λ (t : Bool). length (if t then ((128 + n / 128 / 128) ∷ (128 + n / 128 % 128) ∷ n % 128 ∷ []) else ((128 + n / 128 / 128 / 128) ∷ (128 + n / 128 / 128 % 128) ∷ (128 + n / 128 % 128) ∷ n % 128 ∷ []))) k
    later false false k = ap (λ (t : Bool). length (if t then ((128 + n / 128 / 128) ∷ (128 + n / 128 % 128) ∷ n % 128 ∷ []) else ((128 + n / 128 / 128 / 128) ∷ (128 + n / 128 / 128 % 128) ∷ (128 + n / 128 % 128) ∷ n % 128 ∷ []))) k

one-byte : (n : ℕ) → n < 128 → length (shortest n) ≤ 1
one-byte n h = let e : nat_lt n 128 ≡ true = grind (arith, nat_tests) in let k = length-of n true (nat_lt n 16384) (nat_lt n 2097152) e refl refl in omega (arith, k)

two-bytes : (n : ℕ) → n < 16384 → length (shortest n) ≤ 2
two-bytes n h = let f : nat_lt n 16384 ≡ true = grind (arith, nat_tests) in go (nat_lt n 128) refl f
  where
    go : (a : Bool) → nat_lt n 128 ≡ a → nat_lt n 16384 ≡ true → length (shortest n) ≤ 2
    go true e f = let k = length-of n true true (nat_lt n 2097152) e f refl in omega (arith, k)
    go false e f = let k = length-of n false true (nat_lt n 2097152) e f refl in omega (arith, k)

three-bytes : (n : ℕ) → n < 2097152 → length (shortest n) ≤ 3
three-bytes n h = let g : nat_lt n 2097152 ≡ true = grind (arith, nat_tests) in go (nat_lt n 128) (nat_lt n 16384) refl refl g
  where
    go : (a b : Bool) → nat_lt n 128 ≡ a → nat_lt n 16384 ≡ b → nat_lt n 2097152 ≡ true → length (shortest n) ≤ 3
    go true b e f g = let k = length-of n true b true e f g in omega (arith, k)
    go false true e f g = let k = length-of n false true true e f g in omega (arith, k)
    go false false e f g = let k = length-of n false false true e f g in omega (arith, k)

four-bytes : (n : ℕ) → length (shortest n) ≤ 4
four-bytes n = go (nat_lt n 128) (nat_lt n 16384) (nat_lt n 2097152) refl refl refl
  where
    go : (a b c : Bool) → nat_lt n 128 ≡ a → nat_lt n 16384 ≡ b → nat_lt n 2097152 ≡ c → length (shortest n) ≤ 4
    go true b c e f g = let k = length-of n true b c e f g in omega (arith, k)
    go false true c e f g = let k = length-of n false true c e f g in omega (arith, k)
    go false false true e f g = let k = length-of n false false true e f g in omega (arith, k)
    go false false false e f g = let k = length-of n false false false e f g in omega (arith, k)

-- a quantity is small, and has no more bytes than it took, with those before it
pub record IsShort (used : ℕ) (left : List ℕ) (x : ℕ × List ℕ) : Type 0 where
  pub small : x.0 ≤ 268435455
  pub fits : length (shortest x.0) + length x.1 ≤ used + length left

abbrev AreShort : ℕ → List ℕ → Result (ℕ × List ℕ) PairFault → Type 0
AreShort used left r = (x : ℕ × List ℕ) → r ≡ Ok x → IsShort used left x

short-ok : (used : ℕ) (left : List ℕ) (y : ℕ × List ℕ) → IsShort used left y → AreShort used left (Ok y)
short-ok used left y h x is = let same : y ≡ x = cc in subst (IsShort used left) same h

fourth : (high : ℕ) (left : List ℕ) → high < 2097152 → AreShort 3 left (septets_at 1 high left)
unfolding septets_at
fourth high [] h = λ x is. (let bad : ⊥ = cc in absurd bad)
fourth high (b ∷ left) h = go (nat_lt b 128)
  where
    go : (t : Bool) → AreShort 3 (b ∷ left) (if t then Ok (high * 128 + b % 128, left) else Err LongQuantity)
    go true = let four = four-bytes (high * 128 + b % 128) in short-ok 3 (b ∷ left) (high * 128 + b % 128, left) (record { small = omega arith; fits = omega (arith, four) })
    go false = λ x is. (let bad : ⊥ = cc in absurd bad)

third : (high : ℕ) (left : List ℕ) → high < 16384 → AreShort 2 left (septets_at 2 high left)
unfolding septets_at
third high [] h = λ x is. (let bad : ⊥ = cc in absurd bad)
third high (b ∷ left) h = go (nat_lt b 128) (fourth (high * 128 + b % 128) left (omega arith))
  where
    go : (t : Bool) → AreShort 3 left (septets_at 1 (high * 128 + b % 128) left) → AreShort 2 (b ∷ left) (if t then Ok (high * 128 + b % 128, left) else septets_at 1 (high * 128 + b % 128) left)
    go true more = let low : high * 128 + b % 128 < 2097152 = omega arith in let k = three-bytes (high * 128 + b % 128) low in short-ok 2 (b ∷ left) (high * 128 + b % 128, left) (record { small = omega arith; fits = omega (arith, k) })
    go false more = λ x is. let s : IsShort 3 left x = more x is in let f : length (shortest x.0) + length x.1 ≤ 3 + length left = s.fits in record { small = s.small; fits = omega arith }

second : (high : ℕ) (left : List ℕ) → high < 128 → AreShort 1 left (septets_at 3 high left)
unfolding septets_at
second high [] h = λ x is. (let bad : ⊥ = cc in absurd bad)
second high (b ∷ left) h = go (nat_lt b 128) (third (high * 128 + b % 128) left (omega arith))
  where
    go : (t : Bool) → AreShort 2 left (septets_at 2 (high * 128 + b % 128) left) → AreShort 1 (b ∷ left) (if t then Ok (high * 128 + b % 128, left) else septets_at 2 (high * 128 + b % 128) left)
    go true more = let low : high * 128 + b % 128 < 16384 = omega arith in let k = two-bytes (high * 128 + b % 128) low in short-ok 1 (b ∷ left) (high * 128 + b % 128, left) (record { small = omega arith; fits = omega (arith, k) })
    go false more = λ x is. let s : IsShort 2 left x = more x is in let f : length (shortest x.0) + length x.1 ≤ 2 + length left = s.fits in record { small = s.small; fits = omega arith }

first : (left : List ℕ) → AreShort 0 left (septets_at 4 0 left)
unfolding septets_at
first [] = λ x is. (let bad : ⊥ = cc in absurd bad)
first (b ∷ left) = go (nat_lt b 128) (second (0 * 128 + b % 128) left (omega arith))
  where
    go : (t : Bool) → AreShort 1 left (septets_at 3 (0 * 128 + b % 128) left) → AreShort 0 (b ∷ left) (if t then Ok (0 * 128 + b % 128, left) else septets_at 3 (0 * 128 + b % 128) left)
    go true more = let low : 0 * 128 + b % 128 < 128 = omega arith in let k = one-byte (0 * 128 + b % 128) low in short-ok 0 (b ∷ left) (0 * 128 + b % 128, left) (record { small = omega arith; fits = omega (arith, k) })
    go false more = λ x is. let s : IsShort 1 left x = more x is in let f : length (shortest x.0) + length x.1 ≤ 1 + length left = s.fits in record { small = s.small; fits = omega arith }

pub quantity-short : (left : List ℕ) (x : ℕ × List ℕ) → quantity_at left ≡ Ok x → IsShort 0 left x
quantity-short left x e = first left x (sym (quantity-septets left) ∙ e)

-- ---- events

byte-fits : (n : ℕ) (left : List ℕ) → length left ≤ n → Fits (λ (b : ℕ). 1) n (data_byte_at left)
byte-fits n [] h = fits-err (λ (b : ℕ). 1) n Truncated
byte-fits n (b ∷ left) h = fits-if (λ (x : ℕ). 1) n (is_status b) (Err BadData) (Ok (b, left)) (fits-err (λ (x : ℕ). 1) n BadData) (fits-ok (λ (x : ℕ). 1) n (b, left) (omega arith))

group-fits : (w : Width) (left : List ℕ) → Fits length (length left) (group_at w left)
unfolding group_at
group-fits One left =
    fits-bind (λ (b : ℕ). 1) length (length left) (length left) (data_byte_at left) (λ first. Ok (first.0 ∷ [], first.1)) (byte-fits (length left) left (omega arith)) (λ y is k. fits-ok length (length left) (y.0 ∷ [], y.1) (omega arith))
group-fits Two left =
    fits-bind (λ (b : ℕ). 1) length (length left) (length left) (data_byte_at left) (λ first. data_byte_at first.1 >>= λ second. Ok (first.0 ∷ second.0 ∷ [], second.1)) (byte-fits (length left) left (omega arith))
    (λ y is k. fits-bind (λ (b : ℕ). 1) length (length left) (length y.1) (data_byte_at y.1) (λ second. Ok (y.0 ∷ second.0 ∷ [], second.1)) (byte-fits (length y.1) y.1 (omega arith)) (λ z at j. fits-ok length (length left) (y.0 ∷ z.0 ∷ [], z.1) (omega arith)))

voice-fits : (size : TrackEvent → ℕ) (more status : ℕ) (left : List ℕ) → ((payload : List ℕ) → size (Voice status payload) ≤ more + length payload) → Fits size (more + length left) (voice_at status left)
unfolding voice_at
voice-fits size more status left h = go (begins status)
  where
    go : (k : StatusClass) → Fits size (more + length left) (voice_by k status left)
    go (wire.Channel w) = fits-bind length size (more + length left) (length left) (group_at w left) (λ group. Ok (Voice status group.0, group.1)) (group-fits w left) (λ y is k. let few = h y.0 in fits-ok size (more + length left) (Voice status y.0, y.1) (omega (arith, few)))
    go (wire.Common w) = fits-err size (more + length left) BadStatus
    go wire.TuneRequest = fits-err size (more + length left) BadStatus
    go wire.Exclusive = fits-err size (more + length left) BadStatus
    go wire.RealTime = fits-err size (more + length left) BadStatus
    go wire.Nothing = fits-err size (more + length left) BadStatus

sized-fits : (left : List ℕ) → Fits (λ bytes. length (sized_text bytes)) (length left) (sized_at left)
unfolding sized_at
sized-fits left =
    fits-bind (λ (n : ℕ). length (shortest n)) (λ bytes. length (sized_text bytes)) (length left) (length left) (quantity_at left) (λ size. fault_unless (nat_le size.0 (length size.1)) Truncated (Ok (take size.0 size.1, drop size.0 size.1)))
    (λ x is. (let k : length (shortest x.0) + length x.1 ≤ 0 + length left = (quantity-short left x is).fits in omega arith))
    (λ y is k. fits-unless (λ bytes. length (sized_text bytes)) (length left) (nat_le y.0 (length y.1)) Truncated (Ok (take y.0 y.1, drop y.0 y.1)) (λ there.
    let within : y.0 ≤ length y.1 = grind (arith, nat_tests) in
    let taken : length (take y.0 y.1) ≡ y.0 = length-take-le y.0 y.1 within in
    let whole = length-append (shortest (length (take y.0 y.1))) (take y.0 y.1) in
    let same : length (shortest (length (take y.0 y.1))) ≡ length (shortest y.0) = ap (λ (n : ℕ). length (shortest n)) taken in
    let rest = length-drop y.0 y.1 in
    fits-ok (λ bytes. length (sized_text bytes)) (length left) (take y.0 y.1, drop y.0 y.1) (omega (arith, taken, whole, same, rest))))

if-fits : (t : Bool) (status : ℕ) (payload : List ℕ) → length (if t then payload else (status ∷ payload)) ≤ 1 + length payload
if-fits true status payload = omega arith
if-fits false status payload = omega arith

running-same : (s : ℕ) (payload : List ℕ) → length (event_text (Some s) (Voice s payload)) ≤ 0 + length payload
running-same s payload = let e : length (event_text (Some s) (Voice s payload)) ≡ length payload = ap (λ (t : Bool). length (if t then payload else (s ∷ payload))) (eq-eqb s s refl) in omega (arith, e)

running-fits : (running : Option ℕ) (left : List ℕ) → Fits (λ e. length (event_text running e)) (length left) (running_at running left)
running-fits None left = fits-err (λ e. length (event_text None e)) (length left) NoStatus
running-fits (Some status) left = λ x is. let k = voice-fits (λ e. length (event_text (Some status) e)) 0 status left (λ payload. running-same status payload) x is in omega (arith, k)

meta-fits : (running : Option ℕ) (left : List ℕ) → Fits (λ e. length (event_text running e)) (suc (length left)) (meta_at left)
unfolding meta_at
meta-fits running [] = fits-err (λ e. length (event_text running e)) 1 Truncated
meta-fits running (kind ∷ left) = fits-bind (λ bytes. length (sized_text bytes)) (λ e. length (event_text running e)) (suc (suc (length left))) (length left) (sized_at left) (λ bytes. Ok (Meta kind bytes.0, bytes.1)) (sized-fits left) (λ y is k. fits-ok (λ e. length (event_text running e)) (suc (suc (length left))) (Meta kind y.0, y.1) (omega arith))

event-fits : (running : Option ℕ) (left : List ℕ) → Fits (λ e. length (event_text running e)) (length left) (event_at running left)
unfolding event_at
event-fits running [] = fits-err (λ e. length (event_text running e)) 0 Truncated
event-fits running (b ∷ left) =
    fits-if (λ e. length (event_text running e)) (suc (length left)) (nat_lt b 128) _ _ (running-fits running (b ∷ left))
    (fits-if (λ e. length (event_text running e)) (suc (length left)) (nat_lt b 240) _ _ (λ x is. let k = voice-fits (λ e. length (event_text running e)) 1 b left (λ payload. if-fits (is_running running b) b payload) x is in omega (arith, k))
    (fits-if (λ e. length (event_text running e)) (suc (length left)) (b == 240) _ _ (fits-bind (λ bytes. length (sized_text bytes)) (λ e. length (event_text running e)) (suc (length left)) (length left) (sized_at left) (λ bytes. Ok (Exclusive bytes.0, bytes.1)) (sized-fits left) (λ y is k. fits-ok (λ e. length (event_text running e)) (suc (length left)) (Exclusive y.0, y.1) (omega arith)))
    (fits-if (λ e. length (event_text running e)) (suc (length left)) (b == 247) _ _ (fits-bind (λ bytes. length (sized_text bytes)) (λ e. length (event_text running e)) (suc (length left)) (length left) (sized_at left) (λ bytes. Ok (Escape bytes.0, bytes.1)) (sized-fits left) (λ y is k. fits-ok (λ e. length (event_text running e)) (suc (length left)) (Escape y.0, y.1) (omega arith)))
    (fits-if (λ e. length (event_text running e)) (suc (length left)) (b == 255) _ _ (meta-fits running left) (fits-err (λ e. length (event_text running e)) (suc (length left)) BadStatus)))))

-- ---- pairs

-- a pair that can stand, in no more bytes than it took
record PairFits (running : Option ℕ) (left : List ℕ) (p : Pair) (rest : List ℕ) : Type 0 where
  stands : can_stand p ≡ true
  sound : is_event_sound p.event ≡ true
  fits : length (pair_text running p) + length rest ≤ length left

counted : (bytes : List ℕ) → AreBytes bytes → length bytes ≤ 268435455 → are_bytes bytes ≡ true
counted bytes h few = ap (λ (t : Bool). t && all_bytes bytes) (le-leb (length bytes) 268435455 few) ∙ h

event-counted : (running : Option ℕ) (e : TrackEvent) → HasBytes e → length (event_text running e) ≤ 16777216 → has_bytes e ≡ true
event-counted running (Voice status payload) h few = refl
event-counted running (Exclusive bytes) h few = let k = length-append (shortest (length bytes)) bytes in counted bytes h (omega (arith, k))
event-counted running (Escape bytes) h few = let k = length-append (shortest (length bytes)) bytes in counted bytes h (omega (arith, k))
event-counted running (Meta kind bytes) h few =
    let parts = and_true (nat_lt kind 256) (all_bytes bytes) h in
    let k = length-append (shortest (length bytes)) bytes in
    ap (λ (t : Bool). t && are_bytes bytes) parts.0 ∙ counted bytes parts.1 (omega (arith, k))

pair-of : (running : Option ℕ) (left : List ℕ) (delta : ℕ × List ℕ) (event : TrackEvent × List ℕ) (p : Pair) (rest : List ℕ) → length left ≤ 16777216 → quantity_at left ≡ Ok delta → event_at running delta.1 ≡ Ok event → IsRunning running → HasBytes p.event → p ≡ record { delta = delta.0; event = event.0 } → rest ≡ event.1 → PairFits running left p rest
pair-of running left delta event p rest few first second is bytes same after =
    let short : IsShort 0 left delta = quantity-short left delta first in
    let low : delta.0 ≤ 268435455 = short.small in
    let size : length (shortest delta.0) + length delta.1 ≤ 0 + length left = short.fits in
    let fits : length (event_text running event.0) + length event.1 ≤ length delta.1 = event-fits running delta.1 event second in
    let event_is : p.event ≡ event.0 = ap (λ (q : Pair). q.event) same in
    let delta_is : p.delta ≡ delta.0 = ap (λ (q : Pair). q.delta) same in
    let sound : is_event_sound p.event ≡ true = ap is_event_sound event_is ∙ event-sound running delta.1 is event second in
    let text : length (event_text running p.event) ≡ length (event_text running event.0) = ap (λ (e : TrackEvent). length (event_text running e)) event_is in
    let number : length (shortest p.delta) ≡ length (shortest delta.0) = ap (λ (n : ℕ). length (shortest n)) delta_is in
    let near : is_quantity p.delta ≡ true = le-leb p.delta 268435455 (omega (arith, delta_is, low)) in
    let has : has_bytes p.event ≡ true = event-counted running p.event bytes (omega (arith, text, size, fits)) in
    let whole = length-append (shortest p.delta) (event_text running p.event) in
    let left_over : length rest ≡ length event.1 = ap length after in
    record {
      stands = ap (λ (t : Bool). t && (is_event_sound p.event && has_bytes p.event)) near ∙ ap (λ (t : Bool). t && has_bytes p.event) sound ∙ has;
      sound = sound;
      fits = omega (arith, whole, text, number, size, fits, left_over);
    }

pair-fits : (running : Option ℕ) (left : List ℕ) (p : Pair) (rest : List ℕ) → length left ≤ 16777216 → pair_at running left ≡ Ok (p, rest) → IsRunning running → HasBytes p.event → PairFits running left p rest
unfolding pair_at
pair-fits running [] p rest few e is bytes = let bad : ⊥ = cc in absurd bad
pair-fits running (b ∷ left) p rest few e is bytes =
    let delta : Bound (quantity_at (b ∷ left)) (λ d. event_at running d.1 >>= λ x. Ok (record { delta = d.0; event = x.0 }, x.1)) (p, rest) = bind-ok _ _ _ e in
    let event : Bound (event_at running delta.value.1) (λ x. Ok (record { delta = delta.value.0; event = x.0 }, x.1)) (p, rest) = bind-ok _ _ _ delta.next in
    let next : ◌≡◌ {A = Result (Pair × List ℕ) PairFault} (Ok (record { delta = delta.value.0; event = event.value.0 }, event.value.1)) (Ok (p, rest)) = event.next in
    let same : ◌≡◌ {A = Pair × List ℕ} (record { delta = delta.value.0; event = event.value.0 }, event.value.1) (p, rest) = cc in
    pair-of running (b ∷ left) delta.value event.value p rest few delta.first event.first is bytes (sym (ap (λ (x : Pair × List ℕ). x.0) same)) (sym (ap (λ (x : Pair × List ℕ). x.1) same))

-- ---- tracks

record PairsFit (running : Option ℕ) (left : List ℕ) (ps : List Pair) (after : Option ℕ) (rest : List ℕ) : Type 0 where
  going : AllByRecursion IsGoing ps
  running_is : IsRunning after
  ended : running_end running ps ≡ after
  fits : length (pairs_text running ps) + length rest ≤ length left

pairs-fit : (ps : List Pair) (running after : Option ℕ) (left rest : List ℕ) → ArePairs running left ps after rest → AllHaveBytes ps → IsRunning running → length left ≤ 16777216 → PairsFit running left ps after rest
pairs-fit [] running after left rest stand bytes is few =
    let same : length left ≡ length rest = ap length stand.1 in
    record { going = tt; running_is = subst IsRunning stand.0 is; ended = stand.0; fits = omega (arith, same) }
pairs-fit (p ∷ ps) running after left rest stand bytes is few =
    let one : PairFits running left p stand.0 = pair-fits running left p stand.0 few stand.1 is bytes.0 in
    let size : length (pair_text running p) + length stand.0 ≤ length left = one.fits in
    let more : PairsFit (running_after p.event) stand.0 ps after rest = pairs-fit ps (running_after p.event) after stand.0 rest stand.3 bytes.1 (sound-running p.event one.sound) (omega arith) in
    let others : length (pairs_text (running_after p.event) ps) + length rest ≤ length stand.0 = more.fits in
    let whole = length-append (pair_text running p) (pairs_text (running_after p.event) ps) in
    record { going = (record { stands = one.stands; going = stand.2 }, more.going); running_is = more.running_is; ended = more.ended; fits = omega (arith, whole) }

record BytesOfBoth (before : List Pair) (last : Pair) : Type 0 where
  front : AllHaveBytes before
  end : HasBytes last.event

bytes-of : (before : List Pair) (last : Pair) → AllHaveBytes (before ++ last ∷ []) → BytesOfBoth before last
bytes-of [] last h = record { front = tt; end = h.0 }
bytes-of (p ∷ before) last h = let more : BytesOfBoth before last = bytes-of before last h.1 in record { front = (h.0, more.front); end = more.end }

record TrackFits (content : List ℕ) (ps : List Pair) : Type 0 where
  good : (track : ℕ) → track_refusal track 0 ps ≡ None
  fits : length (pairs_text None ps) ≤ length content

track-fits : (content : List ℕ) (ps : List Pair) → IsTrack content ps → AllHaveBytes ps → length content ≤ 16777216 → TrackFits content ps
track-fits content ps w bytes few =
    let both : BytesOfBoth w.before w.last = bytes-of w.before w.last (subst AllHaveBytes w.whole bytes) in
    let front : PairsFit None content w.before w.after w.rest = pairs-fit w.before None w.after content w.rest w.stand both.front tt few in
    let size : length (pairs_text None w.before) + length w.rest ≤ length content = front.fits in
    let end : PairFits w.after w.rest w.last w.unread = pair-fits w.after w.rest w.last w.unread (omega arith) w.next front.running_is both.end in
    let last_size : length (pair_text w.after w.last) + length w.unread ≤ length w.rest = end.fits in
    let text : pairs_text None ps ≡ pairs_text None w.before ++ pair_text w.after w.last = ap (pairs_text None) w.whole ∙ pairs-append None w.before w.last ∙ ap (λ (r : Option ℕ). pairs_text None w.before ++ pair_text r w.last) front.ended in
    let total : length (pairs_text None ps) ≡ length (pairs_text None w.before) + length (pair_text w.after w.last) = ap length text ∙ length-append (pairs_text None w.before) (pair_text w.after w.last) in
    record {
      good = λ track. ap (track_refusal track 0) w.whole ∙ track-ends track 0 w.before w.last front.going end.stands w.ends;
      fits = omega (arith, total);
    }

-- ---- chunks

record ChunkFits (left : List ℕ) (chunk : Chunk) (more : List ℕ) : Type 0 where
  fits : 8 + length chunk.content + length more ≤ length left

chunk-fits : (left : List ℕ) (chunk : Chunk) (more : List ℕ) → chunk_at left ≡ Ok (chunk, more) → ChunkFits left chunk more
unfolding chunk_at
chunk-fits left chunk more e =
    let a = unless-ok (nat_le 8 (length left)) Missing (fault_unless (nat_le (size_at left) (length (drop 8 left))) Cut (Ok (chunk_of left (size_at left), drop (size_at left) (drop 8 left)))) (chunk, more) e in
    let b = unless-ok (nat_le (size_at left) (length (drop 8 left))) Cut (Ok (chunk_of left (size_at left), drop (size_at left) (drop 8 left))) (chunk, more) a.1 in
    let long : nat_le 8 (length left) ≡ true = a.0 in
    let there : nat_le (size_at left) (length (drop 8 left)) ≡ true = b.0 in
    let eight : 8 ≤ length left = grind (arith, nat_tests) in
    let within : size_at left ≤ length (drop 8 left) = grind (arith, nat_tests) in
    let found : ◌≡◌ {A = Result (Chunk × List ℕ) ChunkFault} (Ok (chunk_of left (size_at left), drop (size_at left) (drop 8 left))) (Ok (chunk, more)) = b.1 in
    let same : ◌≡◌ {A = Chunk × List ℕ} (chunk_of left (size_at left), drop (size_at left) (drop 8 left)) (chunk, more) = cc in
    let content : length chunk.content ≡ length (take (size_at left) (drop 8 left)) = sym (ap (λ (x : Chunk × List ℕ). length x.0.content) same) in
    let rest : length more ≡ length (drop (size_at left) (drop 8 left)) = sym (ap (λ (x : Chunk × List ℕ). length x.1) same) in
    let taken = length-take-le (size_at left) (drop 8 left) within in
    let dropped = length-drop (size_at left) (drop 8 left) in
    let eight_dropped = length-drop 8 left in
    record { fits = omega (arith, content, rest, taken, dropped, eight_dropped) }

record TracksFit (left : List ℕ) (tracks : List (List Pair)) (rest : List ℕ) : Type 0 where
  good : (k : ℕ) → tracks_refusal k tracks ≡ None
  fits : length (tracks_text tracks) + length rest ≤ length left

chunks-fit : (items : List Item) (left rest : List ℕ) → AreChunks left items rest → TracksHaveBytes (tracks_in items) → length left ≤ 16777216 → TracksFit left (tracks_in items) rest
chunks-fit [] left rest stand bytes few = let same : length left ≡ length rest = ap length stand in record { good = λ k. refl; fits = omega (arith, same) }
chunks-fit (Other ∷ items) left rest stand bytes few =
    let one : ChunkFits left stand.0 stand.1 = chunk-fits left stand.0 stand.1 stand.2 in
    let size : 8 + length stand.0.content + length stand.1 ≤ length left = one.fits in
    let more : TracksFit stand.1 (tracks_in items) rest = chunks-fit items stand.1 rest stand.4 bytes (omega arith) in
    let others : length (tracks_text (tracks_in items)) + length rest ≤ length stand.1 = more.fits in
    record { good = more.good; fits = omega arith }
chunks-fit (Track ps ∷ items) left rest stand bytes few =
    let one : ChunkFits left stand.0 stand.1 = chunk-fits left stand.0 stand.1 stand.2 in
    let size : 8 + length stand.0.content + length stand.1 ≤ length left = one.fits in
    let track : TrackFits stand.0.content ps = track-fits stand.0.content ps stand.3.1 bytes.0 (omega arith) in
    let track_size : length (pairs_text None ps) ≤ length stand.0.content = track.fits in
    let more : TracksFit stand.1 (tracks_in items) rest = chunks-fit items stand.1 rest stand.4 bytes.1 (omega arith) in
    let others : length (tracks_text (tracks_in items)) + length rest ≤ length stand.1 = more.fits in
    let whole = length-append (chunk_text (codes "MTrk") (pairs_text None ps)) (tracks_text (tracks_in items)) in
    let chunk = chunk-length (pairs_text None ps) in
    record { good = λ k. ap (λ (o : Option FileRefusal). option_or o (tracks_refusal (suc k) (tracks_in items))) (track.good k) ∙ more.good (suc k); fits = omega (arith, whole, chunk) }

-- ---- files

record HeaderFits (bytes : List ℕ) (header : Header) (after : List ℕ) : Type 0 where
  small : length bytes ≤ 16777216
  fits : 14 + length after ≤ length bytes
  can : can_head header ≡ true

enough : (bytes : List ℕ) → is_long_enough bytes ≡ true → (8 ≤ length bytes) × (6 ≤ size_at bytes) × (size_at bytes ≤ length (drop 8 bytes))
enough bytes h =
    let a = and_true (nat_le 8 (length bytes)) (nat_le 6 (size_at bytes) && nat_le (size_at bytes) (length (drop 8 bytes))) h in
    let b = and_true (nat_le 6 (size_at bytes)) (nat_le (size_at bytes) (length (drop 8 bytes))) a.1 in
    let p : nat_le 8 (length bytes) ≡ true = a.0 in
    let q : nat_le 6 (size_at bytes) ≡ true = b.0 in
    let r : nat_le (size_at bytes) (length (drop 8 bytes)) ≡ true = b.1 in
    let x : 8 ≤ length bytes = grind (arith, nat_tests) in
    let y : 6 ≤ size_at bytes = grind (arith, nat_tests) in
    let z : size_at bytes ≤ length (drop 8 bytes) = grind (arith, nat_tests) in
    (x, y, z)

-- the header of these bytes, and what is left after it, by its three numbers
abbrev Headed : Type 0
Headed = Result (Header × List ℕ) SmfFault

abbrev by_numbers : List ℕ → Headed
by_numbers bytes = header_of (big_number 2 (drop 8 bytes)) (big_number 2 (drop 10 bytes)) (big_number 2 (drop 12 bytes)) >>= λ header. Ok (header, drop (size_at bytes) (drop 8 bytes))

-- what the tests of a header leave
record IsTested (bytes : List ℕ) (found : Header × List ℕ) : Type 0 where
  small : nat_le (length bytes) most_bytes ≡ true
  long : is_long_enough bytes ≡ true
  read : by_numbers bytes ≡ Ok found

tested : (bytes : List ℕ) (found : Header × List ℕ) → header_at bytes ≡ Ok found → IsTested bytes found
unfolding header_at
tested bytes found e =
    let a = unless-ok (nat_le (length bytes) most_bytes) TooLarge (fault_unless (starts (codes "MThd") bytes) NotMidi (fault_unless (is_long_enough bytes) ShortHeader (by_numbers bytes))) found e in
    let b = unless-ok (starts (codes "MThd") bytes) NotMidi (fault_unless (is_long_enough bytes) ShortHeader (by_numbers bytes)) found a.1 in
    let c = unless-ok (is_long_enough bytes) ShortHeader (by_numbers bytes) found b.1 in
    record { small = a.0; long = c.0; read = c.1 }

header-read : (bytes : List ℕ) (h header : Header) (after : List ℕ) → AreBytes bytes → IsTested bytes (header, after) → header_of (big_number 2 (drop 8 bytes)) (big_number 2 (drop 10 bytes)) (big_number 2 (drop 12 bytes)) ≡ Ok h → h ≡ header → after ≡ drop (size_at bytes) (drop 8 bytes) → HeaderFits bytes header after
header-read bytes h header after all t e same rest =
    let low : nat_le (length bytes) most_bytes ≡ true = t.small in
    let small : length bytes ≤ 16777216 = grind (arith, nat_tests) in
    let long = enough bytes t.long in
    let eight : 8 ≤ length bytes = long.0 in
    let six : 6 ≤ size_at bytes = long.1 in
    let within : size_at bytes ≤ length (drop 8 bytes) = long.2 in
    let left_over : length after ≡ length (drop (size_at bytes) (drop 8 bytes)) = ap length rest in
    let dropped = length-drop (size_at bytes) (drop 8 bytes) in
    let eight_dropped = length-drop 8 bytes in
    let ten_dropped = length-drop 10 bytes in
    let three : IsOfThree (big_number 2 (drop 8 bytes)) (big_number 2 (drop 10 bytes)) (big_number 2 (drop 12 bytes)) h = of-three (big_number 2 (drop 8 bytes)) (big_number 2 (drop 10 bytes)) (big_number 2 (drop 12 bytes)) h e in
    let back : IsBack 2 (drop 10 bytes) = big-back 2 (drop 10 bytes) (omega arith) (omega arith) (omega (arith, ten_dropped, eight_dropped)) (bytes-drop 10 bytes all) in
    let few : big_number 2 (drop 10 bytes) ≤ 65535 = back.low in
    let can : can_head h ≡ true = (passes-test can_head (Some (of_three (big_number 2 (drop 8 bytes)) (big_number 2 (drop 10 bytes)) (big_number 2 (drop 12 bytes)))) h (sym (can-head (big_number 2 (drop 8 bytes)) (big_number 2 (drop 10 bytes)) (big_number 2 (drop 12 bytes)) h three.low few e))).passes in
    record { small = small; fits = omega (arith, left_over, dropped, eight_dropped); can = sym (ap can_head same) ∙ can }

header-fits : (bytes : List ℕ) (header : Header) (after : List ℕ) → AreBytes bytes → header_at bytes ≡ Ok (header, after) → HeaderFits bytes header after
header-fits bytes header after all e =
    let t : IsTested bytes (header, after) = tested bytes (header, after) e in
    let read : Bound (header_of (big_number 2 (drop 8 bytes)) (big_number 2 (drop 10 bytes)) (big_number 2 (drop 12 bytes))) (λ h. Ok (h, drop (size_at bytes) (drop 8 bytes))) (header, after) =
    bind-ok (header_of (big_number 2 (drop 8 bytes)) (big_number 2 (drop 10 bytes)) (big_number 2 (drop 12 bytes))) (λ h. Ok (h, drop (size_at bytes) (drop 8 bytes))) (header, after) t.read in
    let next : ◌≡◌ {A = Headed} (Ok (read.value, drop (size_at bytes) (drop 8 bytes))) (Ok (header, after)) = read.next in
    let same : ◌≡◌ {A = Header × List ℕ} (read.value, drop (size_at bytes) (drop 8 bytes)) (header, after) = cc in
    header-read bytes read.value header after all t read.first (ap (λ (x : Header × List ℕ). x.0) same) (sym (ap (λ (x : Header × List ℕ). x.1) same))

-- the file can be written, in no more bytes than it had
pub record IsRewritten (bytes : List ℕ) (f : MidiFile) : Type 0 where
  pub taken : file_refusal f ≡ None
  pub short : length (written_file f) ≤ length bytes

pub file-rewritten : (bytes : List ℕ) (f : MidiFile) → AreBytes bytes → IsFile bytes f → IsRewritten bytes f
unfolding written_file
file-rewritten bytes f all w =
    let head : HeaderFits bytes w.header w.after = header-fits bytes w.header w.after all w.headed in
    let small : length bytes ≤ 16777216 = head.small in
    let fits : 14 + length w.after ≤ length bytes = head.fits in
    let tracks : TracksFit w.after (tracks_in w.items) w.unread = chunks-fit w.items w.after w.unread w.stand (subst TracksHaveBytes w.tracks (file-read bytes f w all)) (omega arith) in
    let size : length (tracks_text (tracks_in w.items)) + length w.unread ≤ length w.after = tracks.fits in
    let whole = length-append (header_text w.header.format w.header.tracks w.header.division) (tracks_text (tracks_in w.items)) in
    let written : file_refusal (record { format = w.header.format; division = w.header.division; tracks = tracks_in w.items }) ≡ None =
    front-written w.header (tracks_in w.items) w.counted (record { can = head.can; good = tracks.good 0 }) (omega (arith, whole)) in
    let text = length-append (header_text f.format (length f.tracks) f.division) (tracks_text f.tracks) in
    let same : length (tracks_text f.tracks) ≡ length (tracks_text (tracks_in w.items)) = ap (λ (ts : List (List Pair)). length (tracks_text ts)) w.tracks in
    record {
      taken =
          ap (λ (n : ℕ). file_refusal (record { format = n; division = f.division; tracks = f.tracks })) w.format
          ∙ ap (λ (n : ℕ). file_refusal (record { format = w.header.format; division = n; tracks = f.tracks })) w.division
          ∙ ap (λ (ts : List (List Pair)). file_refusal (record { format = w.header.format; division = w.header.division; tracks = ts })) w.tracks
          ∙ written;
      short = omega (arith, text, same);
    }
