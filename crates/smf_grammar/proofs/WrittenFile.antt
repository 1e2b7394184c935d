-- What is written of a file is this file.
use Rattle.std.proofs.Common.{◌≡◌, ◌≢◌, ◌≤◌, ◌<◌, ◌^◌, ℕ, suc, ◌+◌, ◌/◌, ◌%◌, Bool, true, false, not, List, [], ◌∷◌, ◌++◌, ◌∙◌, length, length-append, map, refl, arith, ap, sym, subst, append_assoc, ◌⊎◌, inl, inr}
use Rattle.std.specs.Prelude.{Option, Some, None, Result, Ok, Err, is_ok, if◌then◌else◌, IsTrue, nat_lt, nat_le, ◌==◌, ◌&&◌, codes}
use Rattle.std.specs.Option.{option_or}
use Rattle.std.proofs.lemmas.Bool.{cases_lt, le-leb, leb-true}
use Rattle.std.proofs.lemmas.Bool.Decides.{eqb_tells, nat_tests}
use Rattle.midi_wire.specs.declared.status.Width.{Width}
use Rattle.midi_wire.specs.declared.status.Width.TheVariants.{One, Two}
use Rattle.midi_wire.specs.declared.status.StatusClass.{StatusClass}
use Rattle.midi_wire.specs.declared.status.StatusClass.TheVariants.{Channel}
use Rattle.midi_wire.specs.Messages.{begins, all_data, is_group, is_tail, is_message}
use Rattle.midi_wire.proofs.Table.{begins-8, begins-C, begins-E}
use Rattle.midi_wire.proofs.Written.{and_true}
use Rattle.smf_grammar.specs.Outcomes.{◌>>=◌, fault_unless}
use Rattle.smf_grammar.specs.declared.fault.PairFault.{PairFault}
use Rattle.smf_grammar.specs.declared.fault.SmfFault.{SmfFault}
use Rattle.smf_grammar.specs.declared.fault.SmfFault.TheVariants.{UnknownFormat, Format2, ZeroDivision, SmpteDivision, DropFrame}
use Rattle.smf_grammar.specs.declared.fault.SmfFault.TheVariants as smf_fault
use Rattle.smf_grammar.specs.Pairs.{TrackEvent, Voice, Exclusive, Escape, Meta, Pair, is_end, running_after, quantity_at, voice_at, sized_at, meta_at, event_at, pair_at}
use Rattle.smf_grammar.specs.Chunks.{Header, is_frame_division, is_whole_rate, is_track_count, header_of}
use Rattle.smf_grammar.specs.Files.{EndsIn, Track, tracks_in, AreChunks}
use Rattle.smf_grammar.specs.Texts.{shortest, chunk_text}
use Rattle.smf_grammar.specs.Seen.{is_voice, is_event_sound}
use Rattle.smf_grammar.specs.Written.{sized_text, event_text, pair_text, pairs_text, tracks_text, header_text, written_file, BadFormat, BadTrackCount, BadDivision, BadPair, TooLarge, all_bytes, are_bytes, has_bytes, can_stand, refused_after_end, track_refusal, tracks_refusal, header_refusal, size_refusal}
use Rattle.smf_grammar.specs.Laws.{ReadsWritten}
use Rattle.smf_grammar.proofs.Whole.{ends-with}
use Rattle.smf_grammar.proofs.Spelled.{quantity-shortest, group-text, sized-text, voice-whole, pair-parts}
use Rattle.smf_grammar.proofs.TextFile.{chunk-text, header-text}

-- ---- events

pub channel-begins : (s : ℕ) → IsTrue (is_voice s) → (w : Width) × (begins s ≡ Channel w)
channel-begins s h =
    go (cases_lt s 192) (cases_lt s 224)
  where
    low : 128 ≤ s
    low = leb-true 128 s (and_true (nat_le 128 s) (nat_lt s 240) h).0

    high : s < 240
    high = leb-true (suc s) 240 (and_true (nat_le 128 s) (nat_lt s 240) h).1

    go : (s < 192) ⊎ (192 ≤ s) → (s < 224) ⊎ (224 ≤ s) → (w : Width) × (begins s ≡ Channel w)
    go (inl x) y = (Two, begins-8 s low x)
    go (inr x) (inl y) = (One, begins-C s x y)
    go (inr x) (inr y) = (Two, begins-E s y high)

none-grouped : (w : Width) → IsTrue (is_group w []) → ⊥
none-grouped One h = let bad : false ≡ true = h in cc
none-grouped Two h = let bad : false ≡ true = h in cc

first-low : (w : Width) (a : ℕ) (tail : List ℕ) → IsTrue (is_group w (a ∷ tail)) → nat_lt a 128 ≡ true
first-low One a tail h = (and_true (nat_lt a 128) (all_data tail) (and_true (length (a ∷ tail) == 1) (all_data (a ∷ tail)) h).1).0
first-low Two a tail h = (and_true (nat_lt a 128) (all_data tail) (and_true (length (a ∷ tail) == 2) (all_data (a ∷ tail)) h).1).0

voice-left-out : (s : ℕ) (w : Width) (tail more : List ℕ) → begins s ≡ Channel w → IsTrue (is_group w tail) → event_at (Some s) (tail ++ more) ≡ Ok (Voice s tail, more)
unfolding event_at voice_at
voice-left-out s w [] more is group = absurd (none-grouped w group)
voice-left-out s w (a ∷ tail) more is group =
    let low : nat_lt a 128 ≡ true = first-low w a tail group in
    rw (low, is)
    (ap (λ (r : Result (List ℕ × List ℕ) PairFault). r >>= λ group. Ok (Voice s group.0, group.1)) (group-text w (a ∷ tail) more group))

voice-read : (running : Option ℕ) (s : ℕ) (w : Width) (tail more : List ℕ) → begins s ≡ Channel w → IsTrue (is_group w tail) → event_at running (event_text running (Voice s tail) ++ more) ≡ Ok (Voice s tail, more)
voice-read None s w tail more is group = voice-whole None s w tail more is group
voice-read (Some r) s w tail more is group =
    go (eqb_tells r s)
  where
    go : ((r == s) ≡ true) × (r ≡ s) ⊎ ((r == s) ≡ false) × (r ≢ s) → event_at (Some r) ((if r == s then tail else (s ∷ tail)) ++ more) ≡ Ok (Voice s tail, more)
    go (inl e) =
        ap (λ (t : Bool). event_at (Some r) ((if t then tail else (s ∷ tail)) ++ more)) e.0
        ∙ ap (λ (x : ℕ). event_at (Some x) (tail ++ more)) e.1 ∙ voice-left-out s w tail more is group
    go (inr e) = ap (λ (t : Bool). event_at (Some r) ((if t then tail else (s ∷ tail)) ++ more)) e.0 ∙ voice-whole (Some r) s w tail more is group

sized-whole : (bytes more : List ℕ) → length bytes ≤ 268435455 → sized_at (sized_text bytes ++ more) ≡ Ok (bytes, more)
sized-whole bytes more small = sized-text (length bytes) (sized_text bytes ++ more) bytes more (ap quantity_at (append_assoc (shortest (length bytes)) bytes more) ∙ quantity-shortest (length bytes) (bytes ++ more) small) refl

-- how many bytes there are
pub bytes-few : (bytes : List ℕ) → are_bytes bytes ≡ true → length bytes ≤ 268435455
bytes-few bytes h = leb-true (length bytes) 268435455 (and_true (nat_le (length bytes) 268435455) (all_bytes bytes) h).0

pub meta-bytes : (kind : ℕ) (bytes : List ℕ) → has_bytes (Meta kind bytes) ≡ true → are_bytes bytes ≡ true
meta-bytes kind bytes h = (and_true (nat_lt kind 256) (are_bytes bytes) h).1

event-read : (running : Option ℕ) (e : TrackEvent) (more : List ℕ) → IsTrue (is_event_sound e) → has_bytes e ≡ true → event_at running (event_text running e ++ more) ≡ Ok (e, more)
unfolding event_at meta_at
event-read running (Voice s tail) more sound h =
    let both : (is_voice s ≡ true) × (is_message (s ∷ tail) ≡ true) = and_true (is_voice s) (is_message (s ∷ tail)) sound in
    let class : (w : Width) × (begins s ≡ Channel w) = channel-begins s both.0 in
    voice-read running s class.0 tail more class.1 (subst (λ (b : StatusClass). IsTrue (is_tail b tail)) class.1 both.1)
event-read running (Exclusive bytes) more sound h = ap (λ (r : Result (List ℕ × List ℕ) PairFault). r >>= λ bytes. Ok (Exclusive bytes.0, bytes.1)) (sized-whole bytes more (bytes-few bytes h))
event-read running (Escape bytes) more sound h = ap (λ (r : Result (List ℕ × List ℕ) PairFault). r >>= λ bytes. Ok (Escape bytes.0, bytes.1)) (sized-whole bytes more (bytes-few bytes h))
event-read running (Meta kind bytes) more sound h = ap (λ (r : Result (List ℕ × List ℕ) PairFault). r >>= λ bytes. Ok (Meta kind bytes.0, bytes.1)) (sized-whole bytes more (bytes-few bytes (meta-bytes kind bytes h)))

-- ---- pairs

record Fits (p : Pair) : Type 0 where
  near : p.delta ≤ 268435455
  sound : IsTrue (is_event_sound p.event)
  bytes : has_bytes p.event ≡ true

fits : (p : Pair) → can_stand p ≡ true → Fits p
fits p h =
    let a : (nat_le p.delta 268435455 ≡ true) × ((is_event_sound p.event && has_bytes p.event) ≡ true) = and_true (nat_le p.delta 268435455) (is_event_sound p.event && has_bytes p.event) h in
    let b : (is_event_sound p.event ≡ true) × (has_bytes p.event ≡ true) = and_true (is_event_sound p.event) (has_bytes p.event) a.1 in
    record { near = leb-true p.delta 268435455 a.0; sound = b.0; bytes = b.1 }

pair-read : (running : Option ℕ) (p : Pair) (more : List ℕ) → can_stand p ≡ true → pair_at running (pair_text running p ++ more) ≡ Ok (p, more)
pair-read running p more h =
    let f : Fits p = fits p h in
    ap (pair_at running) (append_assoc (shortest p.delta) (event_text running p.event) more)
    ∙ pair-parts running _ (event_text running p.event ++ more) more p.delta p.event (quantity-shortest p.delta (event_text running p.event ++ more) f.near) (event-read running p.event more f.sound f.bytes)

append-nil : {A : Type 0} (xs : List A) → xs ++ [] ≡ xs
append-nil [] = refl
append-nil {A = A} (x ∷ xs) = ap (λ (ys : List A). x ∷ ys) (append-nil xs)

track-read : (ps : List Pair) (running : Option ℕ) (track at : ℕ) → track_refusal track at ps ≡ None → EndsIn running (pairs_text running ps) ps
track-read [] running track at h = let bad : ⊥ = cc in absurd bad
track-read (p ∷ ps) running track at h =
    go (λ r k e. track-read ps r track k e) (can_stand p) (is_end p.event) refl refl h
  where
    Again : Type 0
    Again = (r : Option ℕ) (k : ℕ) → track_refusal track k ps ≡ None → EndsIn r (pairs_text r ps) ps

    last : can_stand p ≡ true → is_end p.event ≡ true → (qs : List Pair) → refused_after_end track at qs ≡ None → EndsIn running (pairs_text running (p ∷ qs)) (p ∷ qs)
    last is ends (q ∷ qs) e = let bad : ⊥ = cc in absurd bad
    last is ends [] e = record { before = []; last = p; after = running; rest = pairs_text running (p ∷ []); unread = []; whole = refl; stand = (refl, refl); next = pair-read running p [] is; ends = ends }

    go : Again → (t u : Bool) → can_stand p ≡ t → is_end p.event ≡ u → (if t then (if u then refused_after_end track at ps else track_refusal track (suc at) ps) else Some (BadPair track at)) ≡ None → EndsIn running (pairs_text running (p ∷ ps)) (p ∷ ps)
    go again false u is ends e = let bad : ⊥ = cc in absurd bad
    go again true true is ends e = last is ends ps e
    go again true false is ends e = ends-with running (pairs_text running (p ∷ ps)) (pairs_text (running_after p.event) ps) p ps (pair-read running p (pairs_text (running_after p.event) ps) is) ends (again (running_after p.event) (suc at) e)

-- ---- tracks

pub neither : {A : Type 0} (a b : Option A) → option_or a b ≡ None → (a ≡ None) × (b ≡ None)
neither None b h = (refl, h)
neither (Some x) b h = let bad : ⊥ = cc in absurd bad

tracks-read : (tracks : List (List Pair)) (n : ℕ) → tracks_refusal n tracks ≡ None → length (tracks_text tracks) ≤ 16777216 → AreChunks (tracks_text tracks) (map Track tracks) []
tracks-read [] n h small = refl
tracks-read (ps ∷ tracks) n h small =
    let both : (track_refusal n 0 ps ≡ None) × (tracks_refusal (suc n) tracks ≡ None) = neither (track_refusal n 0 ps) (tracks_refusal (suc n) tracks) h in
    let sum : length (tracks_text (ps ∷ tracks)) ≡ length (chunk_text (codes "MTrk") (pairs_text None ps)) + length (tracks_text tracks) = length-append (chunk_text (codes "MTrk") (pairs_text None ps)) (tracks_text tracks) in
    let content : length (pairs_text None ps) < 256 ^ 4 = omega arith in
    let more : length (tracks_text tracks) ≤ 16777216 = omega arith in
    (record { is_track = true; content = pairs_text None ps }, tracks_text tracks, chunk-text (pairs_text None ps) (tracks_text tracks) content, (refl, track-read ps None n 0 both.0), tracks-read tracks (suc n) both.1 more)

tracks-kept : (tracks : List (List Pair)) → tracks_in (map Track tracks) ≡ tracks
tracks-kept [] = refl
tracks-kept (ps ∷ tracks) = ap (λ (ts : List (List Pair)). ps ∷ ts) (tracks-kept tracks)

-- ---- the header

record Headed (format tracks division : ℕ) : Type 0 where
  is : header_of format tracks division ≡ Ok (record { format = format; tracks = tracks; division = division })
  small : division < 65536

rate-small : (high : ℕ) → is_whole_rate high ≡ true → high < 256
rate-small high h = grind (arith, nat_tests)

division-small : (division : ℕ) → not (is_frame_division division && not (is_whole_rate (division / 256))) ≡ true → division < 65536
division-small division h =
    go (cases_lt division 32768)
  where
    rate : (t : Bool) → is_whole_rate (division / 256) ≡ t → (r : Bool) → r ≡ true → not (r && not t) ≡ true → division < 65536
    rate true is r e k = let few : division / 256 < 256 = rate-small (division / 256) is in omega arith
    rate false is r e k = let bad : not (true && not false) ≡ true = subst (λ (x : Bool). not (x && not false) ≡ true) e k in let none : ⊥ = cc in absurd none

    go : (division < 32768) ⊎ (32768 ≤ division) → division < 65536
    go (inl low) = omega arith
    go (inr high) = rate (is_whole_rate (division / 256)) refl (is_frame_division division) (le-leb 32768 division high) h

-- all seven tests hold, where a header is given
all-hold : (a b c d e f g : Bool) (p q r s t u v : SmfFault) (h x : Header) → fault_unless a p (fault_unless b q (fault_unless c r (fault_unless d s (fault_unless e t (fault_unless f u (fault_unless g v (Ok h))))))) ≡ Ok x → (f ≡ true) × (x ≡ h)
all-hold false b c d e f g p q r s t u v h x k = let bad : ⊥ = cc in absurd bad
all-hold true false c d e f g p q r s t u v h x k = let bad : ⊥ = cc in absurd bad
all-hold true true false d e f g p q r s t u v h x k = let bad : ⊥ = cc in absurd bad
all-hold true true true false e f g p q r s t u v h x k = let bad : ⊥ = cc in absurd bad
all-hold true true true true false f g p q r s t u v h x k = let bad : ⊥ = cc in absurd bad
all-hold true true true true true false g p q r s t u v h x k = let bad : ⊥ = cc in absurd bad
all-hold true true true true true true false p q r s t u v h x k = let bad : ⊥ = cc in absurd bad
all-hold true true true true true true true p q r s t u v h x k = let same : x ≡ h = cc in (refl, same)

numbers : (format tracks division : ℕ) (x : Header) → header_of format tracks division ≡ Ok x → (x ≡ record { format = format; tracks = tracks; division = division }) × (division < 65536)
unfolding header_of
numbers format tracks division x k =
    let both : (not (is_frame_division division && not (is_whole_rate (division / 256))) ≡ true) × (x ≡ record { format = format; tracks = tracks; division = division }) =
    all-hold (nat_le format 2) (not (format == 2)) (is_track_count format tracks) (not (division == 0)) (not (is_frame_division division && division / 256 == 227))
    (not (is_frame_division division && not (is_whole_rate (division / 256)))) (not (is_frame_division division && division % 256 == 0))
    UnknownFormat Format2 smf_fault.BadTrackCount ZeroDivision DropFrame SmpteDivision ZeroDivision (record { format = format; tracks = tracks; division = division }) x k in
    (both.1, division-small division both.0)

headed : (format tracks division : ℕ) → is_ok (header_of format tracks division) ≡ true → Headed format tracks division
headed format tracks division h =
    go (header_of format tracks division) refl h
  where
    go : (r : Result Header SmfFault) → header_of format tracks division ≡ r → is_ok r ≡ true → Headed format tracks division
    go (Err x) is e = let bad : ⊥ = cc in absurd bad
    go (Ok x) is e = record { is = is ∙ ap (λ (y : Header). Ok y) (numbers format tracks division x is).0; small = (numbers format tracks division x is).1 }

pub record HeaderFits (format tracks division : ℕ) : Type 0 where
  pub format_is : format ≤ 1
  pub few : tracks ≤ 65535
  pub headed : is_ok (header_of format tracks division) ≡ true

pub header-fits : (format tracks division : ℕ) → header_refusal format tracks division ≡ None → HeaderFits format tracks division
header-fits format tracks division h =
    go (nat_le format 1) (is_track_count format tracks && nat_le tracks 65535) (is_ok (header_of format tracks division)) refl refl refl h
  where
    go : (t u v : Bool) → nat_le format 1 ≡ t → (is_track_count format tracks && nat_le tracks 65535) ≡ u → is_ok (header_of format tracks division) ≡ v →
        (if t then (if u then (if v then None else Some BadDivision) else Some BadTrackCount) else Some BadFormat) ≡ None → HeaderFits format tracks division
    go false u v a b d e = let bad : ⊥ = cc in absurd bad
    go true false v a b d e = let bad : ⊥ = cc in absurd bad
    go true true false a b d e = let bad : ⊥ = cc in absurd bad
    go true true true a b d e = record { format_is = leb-true format 1 a; few = leb-true tracks 65535 (and_true (is_track_count format tracks) (nat_le tracks 65535) b).1; headed = d }

-- ---- the file

pub size-small : (size : ℕ) → size_refusal size ≡ None → size ≤ 16777216
size-small size h =
    go (nat_le size 16777216) refl h
  where
    go : (t : Bool) → nat_le size 16777216 ≡ t → (if t then None else Some TooLarge) ≡ None → size ≤ 16777216
    go false is e = let bad : ⊥ = cc in absurd bad
    go true is e = leb-true size 16777216 is

pub reads-written : ReadsWritten
unfolding written_file
reads-written f h =
    let a : (header_refusal f.format (length f.tracks) f.division ≡ None) × (option_or (tracks_refusal 0 f.tracks) (size_refusal (length (written_file f))) ≡ None) = neither (header_refusal f.format (length f.tracks) f.division) (option_or (tracks_refusal 0 f.tracks) (size_refusal (length (written_file f)))) h in
    let b : (tracks_refusal 0 f.tracks ≡ None) × (size_refusal (length (written_file f)) ≡ None) = neither (tracks_refusal 0 f.tracks) (size_refusal (length (written_file f))) a.1 in
    let head : HeaderFits f.format (length f.tracks) f.division = header-fits f.format (length f.tracks) f.division a.0 in
    let low : f.format ≤ 1 = head.format_is in
    let few : length f.tracks ≤ 65535 = head.few in
    let told : Headed f.format (length f.tracks) f.division = headed f.format (length f.tracks) f.division head.headed in
    let whole : length (header_text f.format (length f.tracks) f.division ++ tracks_text f.tracks) ≤ 16777216 = size-small (length (written_file f)) b.1 in
    let small : length (tracks_text f.tracks) ≤ 16777216 = tracks-small f.format f.division f.tracks whole in
    record {
      header = record { format = f.format; tracks = length f.tracks; division = f.division };
      after = tracks_text f.tracks;
      items = map Track f.tracks;
      unread = [];
      headed = header-text f.format (length f.tracks) f.division (tracks_text f.tracks) (omega arith) (omega arith) told.small told.is whole;
      stand = tracks-read f.tracks 0 b.0 small;
      counted = ap (λ (ts : List (List Pair)). length ts) (tracks-kept f.tracks);
      format = refl;
      division = refl;
      tracks = sym (tracks-kept f.tracks);
    }
  where
    tracks-small : (format division : ℕ) (tracks : List (List Pair)) → length (header_text format (length tracks) division ++ tracks_text tracks) ≤ 16777216 → length (tracks_text tracks) ≤ 16777216
    tracks-small format division tracks k = omega arith
