-- Events that are written one after another.
use Rattle.std.proofs.Common.{◌≡◌, ◌≤◌, ◌<◌, ℕ, zero, suc, ◌+◌, ◌-◌, Bool, true, false, List, [], ◌∷◌, ◌++◌, ◌∙◌, ◌⊎◌, inl, inr, length, map, take, drop, get_or, refl, arith, ap, sym, subst, length-append, append_assoc}
use Rattle.std.specs.Prelude.{Option, Some, None, if◌then◌else◌, IsTrue, not, nat_le, ◌==◌, ◌&&◌, codes, Result, Ok, Err, IfErr}
use Rattle.std.specs.Option.{option_map}
use Rattle.std.proofs.lemmas.Bool.{cases_lt, cases_eq, eqb-true, leb-true, le-leb}
use Rattle.std.proofs.lemmas.Bool.Decides.{nat_tests}
use Rattle.midi_wire.specs.declared.status.Width.{Width}
use Rattle.midi_wire.specs.declared.status.Width.TheVariants.{One, Two}
use Rattle.midi_wire.specs.declared.status.StatusClass.{StatusClass}
use Rattle.midi_wire.specs.declared.status.StatusClass.TheVariants.{Channel, Common, TuneRequest, Exclusive, RealTime, Nothing}
use Rattle.midi_wire.specs.Messages.{begins, IsTail, IsMessage, AllMessages, is_group, all_data}
use Rattle.midi_wire.specs.Writings.{status_of}
use Rattle.midi_wire.proofs.Table.{begins-low, begins-8, begins-C, begins-E, begins-F0}
use Rattle.midi_wire.proofs.Written.{and_true}
use Rattle.smf_grammar.specs.declared.event.Event.{Event}
use Rattle.byteorder.specs.Endian.{big_bytes}
use Rattle.midi_wire.proofs.MessageTests.{and_both}
use Rattle.tempo_clock.specs.Entries.{is_tempo}
use Rattle.smf_grammar.specs.Chunks.{most_bytes}
use Rattle.smf_grammar.specs.Laws.{ReadsBack}
use Rattle.smf_grammar.specs.Texts.{shortest, message_text, events_text, track_text, chunk_text, file_text, stands_in_files, can_follow, bad_event}
use Rattle.smf_grammar.proofs.TextFile.{reads-text}
use Rattle.smf_files.specs.declared.fault.WriteFault.TheVariants.{BadPpq, BadTempo, TooLarge}
use Rattle.smf_files.specs.Refusals.{refusal_by, write_refusal}

-- ---- which messages stand in files

stands-above : (b : ℕ) → 240 < b → stands_in_files (begins b) ≡ false
unfolding begins
stands-above b h = grind (arith, nat_tests)

stands-below : (b : ℕ) → 128 ≤ b → b < 240 → stands_in_files (begins b) ≡ true
stands-below b h l =
    go (cases_lt b 192) (cases_lt b 224)
  where
    go : (b < 192) ⊎ (192 ≤ b) → (b < 224) ⊎ (224 ≤ b) → stands_in_files (begins b) ≡ true
    go (inl x) y = ap stands_in_files (begins-8 b h x)
    go (inr x) (inl y) = ap stands_in_files (begins-C b x y)
    go (inr x) (inr y) = ap stands_in_files (begins-E b y l)

pub message-status : (m : List ℕ) → IsMessage m → 128 ≤ status_of m
message-status [] h = absurd h
message-status (s ∷ tail) h =
    go (cases_lt s 128)
  where
    go : (s < 128) ⊎ (128 ≤ s) → 128 ≤ s
    go (inl l) = let P : StatusClass → Type 0 = λ b. IsTail b tail in absurd (subst P (begins-low s l) h)
    go (inr l) = l

pub stands-by-status : (m : List ℕ) → IsMessage m → nat_le (status_of m) 240 ≡ stands_in_files (begins (status_of m))
stands-by-status m h =
    let low : 128 ≤ status_of m = message-status m h in
    go (cases_lt (status_of m) 240) (cases_eq (status_of m) 240)
  where
    go : (status_of m < 240) ⊎ (240 ≤ status_of m) → (status_of m ≡ 240) ⊎ (status_of m ≡ 240 → ⊥) → nat_le (status_of m) 240 ≡ stands_in_files (begins (status_of m))
    go (inl l) e = le-leb (status_of m) 240 (omega arith) ∙ sym (stands-below (status_of m) (message-status m h) l)
    go (inr l) (inl e) = le-leb (status_of m) 240 (omega arith) ∙ sym (ap (λ n. stands_in_files (begins n)) e ∙ ap stands_in_files begins-F0)
    go (inr l) (inr e) = let f : nat_le (status_of m) 240 ≡ false = grind (arith, nat_tests) in f ∙ sym (stands-above (status_of m) (omega arith))

-- ---- how long messages are

group-length : (w : Width) (xs : List ℕ) → IsTrue (is_group w xs) → length xs ≤ 2
group-length One xs h = let e : length xs ≡ 1 = eqb-true (length xs) 1 (and_true (length xs == 1) (all_data xs) h).0 in omega arith
group-length Two xs h = let e : length xs ≡ 2 = eqb-true (length xs) 2 (and_true (length xs == 2) (all_data xs) h).0 in omega arith

tail-length : (b : StatusClass) (tail : List ℕ) → IsTail b tail → length tail ≤ 65537
tail-length (Channel w) tail h = let e : length tail ≤ 2 = group-length w tail h in omega arith
tail-length (Common w) tail h = let e : length tail ≤ 2 = group-length w tail h in omega arith
tail-length TuneRequest tail h = let e : length tail ≡ 0 = ap (λ (xs : List ℕ). length xs) h in omega arith
tail-length RealTime tail h = let e : length tail ≡ 0 = ap (λ (xs : List ℕ). length xs) h in omega arith
tail-length Nothing tail h = absurd h
tail-length Exclusive tail h =
    let whole : length tail ≡ length (h.0 ++ 247 ∷ []) = ap (λ (xs : List ℕ). length xs) h.1 in
    let one : length (h.0 ++ 247 ∷ []) ≡ length h.0 + 1 = length-append h.0 (247 ∷ []) in
    let most : length h.0 ≤ 65536 = h.3 in
    omega arith

pub message-length : (m : List ℕ) → IsMessage m → (1 ≤ length m) × (length m ≤ 65538)
message-length [] h = absurd h
message-length (s ∷ tail) h = let e : length tail ≤ 65537 = tail-length (begins s) tail h in (omega arith, omega arith)

pub plain-text : (m : List ℕ) → IsMessage m → (status_of m == 240) ≡ false → message_text m ≡ m
plain-text [] h e = absurd h
plain-text (s ∷ tail) h e = ap (λ (t : Bool). if t then (240 ∷ shortest (length tail) ++ tail) else (s ∷ tail)) e

pub exclusive-text : (m : List ℕ) → IsMessage m → (status_of m == 240) ≡ true → message_text m ≡ (240 ∷ shortest (length m - 1)) ++ drop 1 m
exclusive-text [] h e = absurd h
exclusive-text (s ∷ tail) h e =
    let n : length tail ≡ suc (length tail) - 1 = omega arith in
    ap (λ (t : Bool). if t then (240 ∷ shortest (length tail) ++ tail) else (s ∷ tail)) e ∙ ap (λ (k : ℕ). (240 ∷ shortest k) ++ tail) n

pub exclusive-length : (m : List ℕ) → IsMessage m → (status_of m == 240) ≡ true → length (message_text m) ≡ length m + length (shortest (length m - 1))
exclusive-length [] h e = absurd h
exclusive-length (s ∷ tail) h e =
    let n : length tail ≡ suc (length tail) - 1 = omega arith in
    let text : length (message_text (s ∷ tail)) ≡ length ((240 ∷ shortest (length tail)) ++ tail) = ap (λ (t : Bool). length (if t then (240 ∷ shortest (length tail) ++ tail) else (s ∷ tail))) e in
    let sum : length ((240 ∷ shortest (length tail)) ++ tail) ≡ length (240 ∷ shortest (length tail)) + length tail = length-append (240 ∷ shortest (length tail)) tail in
    let same : length (shortest (length tail)) ≡ length (shortest (suc (length tail) - 1)) = ap (λ (k : ℕ). length (shortest k)) n in
    omega arith

-- ---- one event after another

-- an index further back
abbrev pub shifted : ℕ → Option ℕ → Option ℕ
shifted i None = None
shifted i (Some k) = Some (i + k)

shifted-suc : (i : ℕ) (o : Option ℕ) → shifted i (option_map suc o) ≡ shifted (i + 1) o
shifted-suc i None = refl
shifted-suc i (Some k) = let e : i + suc k ≡ i + 1 + k = omega arith in ap Some e

pub shifted-zero : (o : Option ℕ) → shifted 0 o ≡ o
shifted-zero None = refl
shifted-zero (Some k) = let e : 0 + k ≡ k = omega arith in ap Some e

pub front : {A : Type 0} (events : List A) (i : ℕ) (e : A) → i < length events → e ≡ get_or events i e → drop i events ≡ e ∷ drop (i + 1) events
front [] i e h is = absurd (omega arith)
front {A = A} (x ∷ xs) zero e h is = ap (λ (y : A). y ∷ xs) (sym is)
front (x ∷ xs) (suc i) e h is = let n : suc i + 1 ≡ suc (i + 1) = omega arith in front xs i e (omega arith) is ∙ ap (λ (k : ℕ). e ∷ drop k (x ∷ xs)) (sym n)

pub nothing-left : {A : Type 0} (events : List A) (i : ℕ) → length events ≤ i → drop i events ≡ []
nothing-left [] zero h = refl
nothing-left [] (suc i) h = refl
nothing-left (x ∷ xs) zero h = absurd (omega arith)
nothing-left (x ∷ xs) (suc i) h = nothing-left xs i (omega arith)

pub bad-here : (events : List Event) (i before : ℕ) (e : Event) → drop i events ≡ e ∷ drop (i + 1) events → can_follow before e ≡ false → shifted i (bad_event before (drop i events)) ≡ Some i
bad-here events i before e is f =
    let zero' : i + 0 ≡ i = omega arith in
    ap (λ (es : List Event). shifted i (bad_event before es)) is
    ∙ ap (λ (t : Bool). shifted i (if t then option_map suc (bad_event e.tick (drop (i + 1) events)) else Some 0)) f
    ∙ ap Some zero'

pub bad-later : (events : List Event) (i before : ℕ) (e : Event) → drop i events ≡ e ∷ drop (i + 1) events → can_follow before e ≡ true → shifted i (bad_event before (drop i events)) ≡ shifted (i + 1) (bad_event e.tick (drop (i + 1) events))
bad-later events i before e is f =
    ap (λ (es : List Event). shifted i (bad_event before es)) is
    ∙ ap (λ (t : Bool). shifted i (if t then option_map suc (bad_event e.tick (drop (i + 1) events)) else Some 0)) f
    ∙ shifted-suc i (bad_event e.tick (drop (i + 1) events))

pub bad-none : (events : List Event) (i before : ℕ) → length events ≤ i → shifted i (bad_event before (drop i events)) ≡ None
bad-none events i before h = ap (λ (es : List Event). shifted i (bad_event before es)) (nothing-left events i h)

-- an event that can be written, and what comes after it
pub record Follows (before : ℕ) (events : List Event) (i : ℕ) (e : Event) : Type 0 where
  pub later : before ≤ e.tick
  pub near : e.tick - before ≤ 268435455
  pub rest : bad_event e.tick (drop (i + 1) events) ≡ None
  pub text : events_text before (drop i events) ≡ shortest (e.tick - before) ++ message_text e.message ++ events_text e.tick (drop (i + 1) events)

some-none : (o : Option ℕ) → option_map suc o ≡ None → o ≡ None
some-none None h = refl
some-none (Some k) h = let bad : ⊥ = cc in absurd bad

pub follows : (before : ℕ) (events : List Event) (i : ℕ) (e : Event) → drop i events ≡ e ∷ drop (i + 1) events → bad_event before (drop i events) ≡ None → Follows before events i e
follows before events i e is none =
    go (can_follow before e) refl (sym (ap (bad_event before) is) ∙ none)
  where
    go : (t : Bool) → can_follow before e ≡ t → (if t then option_map suc (bad_event e.tick (drop (i + 1) events)) else Some 0) ≡ None → Follows before events i e
    go false f h = let bad : ⊥ = cc in absurd bad
    go true f h =
        let a : _ = and_true (nat_le before e.tick) (nat_le (e.tick - before) 268435455 && stands_in_files (begins (status_of e.message))) f in
        let b : _ = and_true (nat_le (e.tick - before) 268435455) (stands_in_files (begins (status_of e.message))) a.1 in
        record { later = leb-true before e.tick a.0; near = leb-true (e.tick - before) 268435455 b.0; rest = some-none (bad_event e.tick (drop (i + 1) events)) h; text = ap (events_text before) is }

pub at-next : (before : ℕ) (events : List Event) (i : ℕ) (e : Event) → i < length events → e ≡ get_or events i e → bad_event before (drop i events) ≡ None → Follows before events i e
at-next before events i e h is none = follows before events i e (front events i e h is) none

-- after an event was written, what is written and what is to come are as before
pub text-more : (a b c quantity message rest text all : List ℕ) → b ≡ a ++ quantity → c ≡ b ++ message → text ≡ quantity ++ message ++ rest → a ++ text ≡ all → c ++ rest ≡ all
text-more a b c quantity message rest text all first second is whole =
    let long : ((a ++ quantity) ++ message) ++ rest ≡ a ++ (quantity ++ (message ++ rest)) = simp append_assoc in
    let short : a ++ text ≡ a ++ (quantity ++ (message ++ rest)) = ap (λ (t : List ℕ). a ++ t) is ∙ simp append_assoc in
    cc

-- ---- messages one after another

pub all-more : (ms : List (List ℕ)) (m : List ℕ) → AllMessages ms → IsMessage m → AllMessages (ms ++ m ∷ [])
all-more [] m h k = (k, tt)
all-more (x ∷ xs) m h k = (h.0, all-more xs m h.1 k)

pub all-taken : (events : List Event) → map (λ (e : Event). e.message) (take (length events) events) ≡ map (λ (e : Event). e.message) events
all-taken [] = refl
all-taken (e ∷ events) = ap (λ (ms : List (List ℕ)). e.message ∷ ms) (all-taken events)

pub one-taken : (events : List Event) (i : ℕ) (e : Event) → i < length events → e ≡ get_or events i e → map (λ (e : Event). e.message) (take (i + 1) events) ≡ map (λ (e : Event). e.message) (take i events) ++ e.message ∷ []
one-taken [] i e h is = absurd (omega arith)
one-taken (x ∷ xs) zero e h is = ap (λ (y : Event). y.message ∷ []) (sym is)
one-taken (x ∷ xs) (suc i) e h is = let n : suc i + 1 ≡ suc (i + 1) = omega arith in ap (λ (k : ℕ). map (λ (e : Event). e.message) (take k (x ∷ xs))) n ∙ ap (λ (ms : List (List ℕ)). x.message ∷ ms) (one-taken xs i e (omega arith) is)

-- ---- the whole file

pub track-length : (tempo : ℕ) (events : List Event) → length (track_text tempo events) ≡ length (events_text 0 events) + 11
track-length tempo events =
    let all : length (track_text tempo events) ≡ length (((0 ∷ 255 ∷ 81 ∷ 3 ∷ []) ++ big_bytes 3 tempo) ++ events_text 0 events) + 4 = length-append (((0 ∷ 255 ∷ 81 ∷ 3 ∷ []) ++ big_bytes 3 tempo) ++ events_text 0 events) (0 ∷ 255 ∷ 47 ∷ 0 ∷ []) in
    let front : length (((0 ∷ 255 ∷ 81 ∷ 3 ∷ []) ++ big_bytes 3 tempo) ++ events_text 0 events) ≡ 7 + length (events_text 0 events) = length-append ((0 ∷ 255 ∷ 81 ∷ 3 ∷ []) ++ big_bytes 3 tempo) (events_text 0 events) in
    omega arith

pub file-length : (ppq tempo : ℕ) (events : List Event) → length (file_text ppq tempo events) ≡ length (events_text 0 events) + 33
unfolding file_text
file-length ppq tempo events =
    let track : length (track_text tempo events) ≡ length (events_text 0 events) + 11 = track-length tempo events in
    let all : length (file_text ppq tempo events) ≡ 22 + length (track_text tempo events) = length-append (chunk_text (codes "MThd") (big_bytes 2 0 ++ big_bytes 2 1 ++ big_bytes 2 ppq) ++ (77 ∷ 84 ∷ 114 ∷ 107 ∷ []) ++ big_bytes 4 (length (track_text tempo events))) (track_text tempo events) in
    omega arith

pub whole-text : (ppq tempo size : ℕ) (events : List Event) → size ≡ length (events_text 0 events) →
    ((((((((((([] ++ (77 ∷ 84 ∷ 104 ∷ 100 ∷ [])) ++ big_bytes 4 6) ++ big_bytes 2 0) ++ big_bytes 2 1) ++ big_bytes 2 ppq) ++ (77 ∷ 84 ∷ 114 ∷ 107 ∷ [])) ++ big_bytes 4 (size + 11)) ++ (0 ∷ 255 ∷ 81 ∷ 3 ∷ [])) ++ big_bytes 3 tempo) ++ events_text 0 events) ++ (0 ∷ 255 ∷ 47 ∷ 0 ∷ [])) ≡ file_text ppq tempo events
unfolding file_text
whole-text ppq tempo size events measured =
    let n : size + 11 ≡ length (track_text tempo events) = (let t : length (track_text tempo events) ≡ length (events_text 0 events) + 11 = track-length tempo events in omega arith) in
    ap (λ (k : ℕ). (((((((((([] ++ (77 ∷ 84 ∷ 104 ∷ 100 ∷ [])) ++ big_bytes 4 6) ++ big_bytes 2 0) ++ big_bytes 2 1) ++ big_bytes 2 ppq) ++ (77 ∷ 84 ∷ 114 ∷ 107 ∷ [])) ++ big_bytes 4 k) ++ (0 ∷ 255 ∷ 81 ∷ 3 ∷ [])) ++ big_bytes 3 tempo) ++ events_text 0 events) ++ (0 ∷ 255 ∷ 47 ∷ 0 ∷ [])) n

-- ---- which events are refused

in-range : (low x high : ℕ) → low ≤ x → x ≤ high → (nat_le low x && nat_le x high) ≡ true
in-range low x high h k = and_both (nat_le low x) (nat_le x high) (le-leb low x h) (le-leb x high k)

-- what was tested before the events are written
pub record Tested (ppq tempo : ℕ) (events : List Event) : Type 0 where
  pub some_ppq : 1 ≤ ppq
  pub small_ppq : ppq ≤ 32767
  pub some_tempo : 1 ≤ tempo
  pub small_tempo : tempo ≤ 16777215
  pub good : bad_event 0 events ≡ None

refused-by-size : (ppq tempo : ℕ) (events : List Event) → Tested ppq tempo events → write_refusal ppq tempo events ≡ (if nat_le (length (file_text ppq tempo events)) most_bytes then None else Some TooLarge)
refused-by-size ppq tempo events t =
    ap (λ (b : Bool). if not b then Some BadPpq else (if not (is_tempo tempo) then Some BadTempo else refusal_by (bad_event 0 events) (length (file_text ppq tempo events)))) (in-range 1 ppq 32767 t.some_ppq t.small_ppq)
    ∙ ap (λ (b : Bool). if not b then Some BadTempo else refusal_by (bad_event 0 events) (length (file_text ppq tempo events))) (in-range 1 tempo 16777215 t.some_tempo t.small_tempo)
    ∙ ap (λ (o : Option ℕ). refusal_by o (length (file_text ppq tempo events))) t.good

pub too-large : (ppq tempo : ℕ) (events : List Event) → Tested ppq tempo events → 16777183 < length (events_text 0 events) → write_refusal ppq tempo events ≡ Some TooLarge
too-large ppq tempo events t h =
    let n : length (file_text ppq tempo events) ≡ length (events_text 0 events) + 33 = file-length ppq tempo events in
    let f : nat_le (length (file_text ppq tempo events)) most_bytes ≡ false = grind (arith, nat_tests) in
    refused-by-size ppq tempo events t ∙ ap (λ (b : Bool). if b then None else Some TooLarge) f

pub accepted : (ppq tempo : ℕ) (events : List Event) → Tested ppq tempo events → length (events_text 0 events) ≤ 16777183 → write_refusal ppq tempo events ≡ None
accepted ppq tempo events t h =
    let n : length (file_text ppq tempo events) ≡ length (events_text 0 events) + 33 = file-length ppq tempo events in
    let f : nat_le (length (file_text ppq tempo events)) most_bytes ≡ true = le-leb (length (file_text ppq tempo events)) 16777216 (omega arith) in
    refused-by-size ppq tempo events t ∙ ap (λ (b : Bool). if b then None else Some TooLarge) f

pub back : (ppq tempo : ℕ) (events : List Event) → Tested ppq tempo events → AllMessages (map (λ (e : Event). e.message) events) → length (events_text 0 events) ≤ 16777183 → ReadsBack ppq tempo events
back ppq tempo events t messages h = reads-text ppq tempo events (record {
  ppq_is = in-range 1 ppq 32767 t.some_ppq t.small_ppq;
  tempo_is = in-range 1 tempo 16777215 t.some_tempo t.small_tempo;
  events_are = t.good;
  messages = messages;
  small = (let n : length (file_text ppq tempo events) ≡ length (events_text 0 events) + 33 = file-length ppq tempo events in omega arith);
})

-- a fault that says nothing refuses nothing
pub nothing-refused : {A E R : Type 0} (told : E → Option R) (lack : E) (r : Result A E) (o : Option R) → told lack ≡ None → IfErr r (λ x. x ≡ lack) → o ≡ None → IfErr r (λ x. o ≡ told x)
nothing-refused told lack (Ok a) o silent h e = tt
nothing-refused told lack (Err x) o silent h e = e ∙ sym (ap told h ∙ silent)

pub whole-steps : (ppq tempo size : ℕ) (events : List Event) (none head format one division kind tempos written' whole : List ℕ) → size ≡ length (events_text 0 events) →
    none ≡ [] → head ≡ none ++ (77 ∷ 84 ∷ 104 ∷ 100 ∷ []) ++ big_bytes 4 6 → format ≡ head ++ big_bytes 2 0 → one ≡ format ++ big_bytes 2 1 → division ≡ one ++ big_bytes 2 ppq →
    kind ≡ division ++ (77 ∷ 84 ∷ 114 ∷ 107 ∷ []) ++ big_bytes 4 (size + 11) → tempos ≡ kind ++ (0 ∷ 255 ∷ 81 ∷ 3 ∷ []) ++ big_bytes 3 tempo → written' ≡ tempos ++ events_text 0 events →
    whole ≡ written' ++ (0 ∷ 255 ∷ 47 ∷ 0 ∷ []) → whole ≡ file_text ppq tempo events
whole-steps ppq tempo size events none head format one division kind tempos written' whole measured a b c d e f g h i =
    i ∙ ap (λ (xs : List ℕ). xs ++ (0 ∷ 255 ∷ 47 ∷ 0 ∷ [])) (h ∙ ap (λ (xs : List ℕ). xs ++ events_text 0 events) (g ∙ ap (λ (xs : List ℕ). xs ++ (0 ∷ 255 ∷ 81 ∷ 3 ∷ []) ++ big_bytes 3 tempo)
    (f ∙ ap (λ (xs : List ℕ). xs ++ (77 ∷ 84 ∷ 114 ∷ 107 ∷ []) ++ big_bytes 4 (size + 11)) (e ∙ ap (λ (xs : List ℕ). xs ++ big_bytes 2 ppq) (d ∙ ap (λ (xs : List ℕ). xs ++ big_bytes 2 1)
    (c ∙ ap (λ (xs : List ℕ). xs ++ big_bytes 2 0) (b ∙ ap (λ (xs : List ℕ). xs ++ (77 ∷ 84 ∷ 104 ∷ 100 ∷ []) ++ big_bytes 4 6) a))))))) ∙ whole-text ppq tempo size events measured
