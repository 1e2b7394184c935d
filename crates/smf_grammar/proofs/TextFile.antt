-- A written file is read back.
use Rattle.std.proofs.Common.{◌≡◌, ◌≢◌, ◌≤◌, ◌<◌, ◌^◌, ℕ, suc, ◌+◌, ◌-◌, Bool, true, false, not, List, [], ◌∷◌, ◌++◌, ◌∙◌, length, length-append, map, refl, arith, ap, sym, subst, append_assoc, ◌⊎◌, inl, inr}
use Rattle.std.specs.Prelude.{Option, Some, None, Result, Ok, if◌then◌else◌, IsTrue, nat_le, ◌==◌, ◌&&◌, is_some, codes}
use Rattle.std.specs.Option.{option_map}
use Rattle.std.proofs.lemmas.Bool.{le-leb, leb-true}
use Rattle.std.proofs.lemmas.Bool.Decides.{eqb_tells, nat_tests}
use Rattle.std.proofs.Math.Seq.{take-append_seam, drop-append_seam}
use Rattle.byteorder.specs.Endian.{big_number, big_bytes}
use Rattle.byteorder.specs.Numbers.{big_number-reads_back}
use Rattle.midi_wire.specs.Messages.{IsMessage, AllMessages, is_message, begins}
use Rattle.midi_wire.specs.Writings.{status_of}
use Rattle.midi_wire.proofs.Written.{and_true}
use Rattle.midi_wire.proofs.MessageTests.{message-test}
use Rattle.tempo_clock.specs.Entries.{is_ppq, is_tempo}
use Rattle.tempo_clock.specs.declared.entry.TempoEntry.{TempoEntry}
use Rattle.smf_grammar.specs.declared.event.Event.{Event}
use Rattle.smf_grammar.specs.Outcomes.{◌>>=◌}
use Rattle.smf_grammar.specs.Pairs.{Voice, Exclusive, Meta, Pair, is_end, running_after, meta_at, event_at, pair_at}
use Rattle.smf_grammar.specs.Chunks.{is_frame_division, header_of, header_at, chunk_at}
use Rattle.smf_grammar.specs.Files.{ArePairs, IsTrack, Track}
use Rattle.smf_grammar.specs.Contents.{put_by_tick, in_order, message_of, event_if, events_from, events_of, tempo_in, tempo_of, entry_if, tempos_from, entries_of, last_at_each, default_entry, is_skipped, skipped_in, skipped_in_all, skipped_of}
use Rattle.smf_grammar.specs.Texts.{shortest, message_text, events_text, track_text, chunk_text, file_text, can_follow, bad_event, stands_in_files}
use Rattle.smf_grammar.specs.Written.{header_text}
use Rattle.smf_grammar.specs.Laws.{ReadsText}
use Rattle.smf_grammar.proofs.Spelled.{quantity-shortest, quantity-byte, event-spelled, sized-text, event-text, pair-parts}

-- ---- the pairs of the events

pub pairs-text : ℕ → List Event → List Pair
pairs-text before [] = []
pairs-text before (e ∷ events) = record { delta = e.tick - before; event = event-spelled e.message } ∷ pairs-text e.tick events

record Follows (before : ℕ) (e : Event) (events : List Event) : Type 0 where
  later : before ≤ e.tick
  near : e.tick - before ≤ 268435455
  stands : IsTrue (stands_in_files (begins (status_of e.message)))
  more : bad_event e.tick events ≡ None

follows : (before : ℕ) (e : Event) (events : List Event) → bad_event before (e ∷ events) ≡ None → Follows before e events
follows before e events h =
    go (can_follow before e) refl h
  where
    none : (o : Option ℕ) → option_map suc o ≡ None → o ≡ None
    none None e = refl
    none (Some n) e = let bad : ⊥ = cc in absurd bad

    go : (t : Bool) → can_follow before e ≡ t → (if t then option_map suc (bad_event e.tick events) else Some 0) ≡ None → Follows before e events
    go false is k = let bad : ⊥ = cc in absurd bad
    go true is k =
        let rest : (nat_le (e.tick - before) 268435455 && stands_in_files (begins (status_of e.message))) ≡ true = (and_true (nat_le before e.tick) (nat_le (e.tick - before) 268435455 && stands_in_files (begins (status_of e.message))) is).1 in
        record {
          later = leb-true before e.tick (and_true (nat_le before e.tick) (nat_le (e.tick - before) 268435455 && stands_in_files (begins (status_of e.message))) is).0;
          near = leb-true (e.tick - before) 268435455 (and_true (nat_le (e.tick - before) 268435455) (stands_in_files (begins (status_of e.message))) rest).0;
          stands = (and_true (nat_le (e.tick - before) 268435455) (stands_in_files (begins (status_of e.message))) rest).1;
          more = none (bad_event e.tick events) k;
        }

spelled-goes-on : (m : List ℕ) → is_end (event-spelled m) ≡ false
unfolding event-spelled
spelled-goes-on [] = refl
spelled-goes-on (s ∷ tail) =
    go (s == 240)
  where
    go : (t : Bool) → is_end (if t then Exclusive tail else Voice s tail) ≡ false
    go true = refl
    go false = refl

record Stand (running : Option ℕ) (left : List ℕ) (pairs : List Pair) (rest : List ℕ) : Type 0 where
  after : Option ℕ
  stand : ArePairs running left pairs after rest

events-stand : (events : List Event) (before : ℕ) (running : Option ℕ) (rest : List ℕ) → bad_event before events ≡ None → AllMessages (map (λ e. e.message) events) → Stand running (events_text before events ++ rest) (pairs-text before events) rest
unfolding pairs-text
events-stand [] before running rest h k = record { after = running; stand = (refl, refl) }
events-stand (e ∷ events) before running rest h k =
    let f : Follows before e events = follows before e events h in
    let ih : Stand (running_after (event-spelled e.message)) (events_text e.tick events ++ rest) (pairs-text e.tick events) rest = events-stand events e.tick (running_after (event-spelled e.message)) rest f.more k.1 in
    let shape : events_text before (e ∷ events) ++ rest ≡ shortest (e.tick - before) ++ (message_text e.message ++ (events_text e.tick events ++ rest)) =
    append_assoc (shortest (e.tick - before) ++ message_text e.message) (events_text e.tick events) rest ∙ append_assoc (shortest (e.tick - before)) (message_text e.message) (events_text e.tick events ++ rest) in
    let first : pair_at running (shortest (e.tick - before) ++ (message_text e.message ++ (events_text e.tick events ++ rest))) ≡ Ok (record { delta = e.tick - before; event = event-spelled e.message }, events_text e.tick events ++ rest) =
    pair-parts running _ (message_text e.message ++ (events_text e.tick events ++ rest)) (events_text e.tick events ++ rest) (e.tick - before) (event-spelled e.message)
    (quantity-shortest (e.tick - before) (message_text e.message ++ (events_text e.tick events ++ rest)) f.near)
    (event-text running e.message (events_text e.tick events ++ rest) k.0 f.stands) in
    record { after = ih.after; stand = (events_text e.tick events ++ rest, ap (pair_at running) shape ∙ first, spelled-goes-on e.message, ih.stand) }

-- ---- the track

tempo-pair : ℕ → Pair
tempo-pair tempo = record { delta = 0; event = Meta 81 (big_bytes 3 tempo) }

end-pair : Pair
end-pair = record { delta = 0; event = Meta 47 [] }

end-text : List ℕ
end-text = 0 ∷ 255 ∷ 47 ∷ 0 ∷ []

meta-text : (running : Option ℕ) (kind size : ℕ) (bytes more : List ℕ) → size < 128 → size ≡ length bytes → event_at running (255 ∷ kind ∷ size ∷ (bytes ++ more)) ≡ Ok (Meta kind bytes, more)
unfolding event_at meta_at
meta-text running kind size bytes more low same =
    ap (λ (r : Result (List ℕ × List ℕ) _). r >>= λ bytes. Ok (Meta kind bytes.0, bytes.1)) (sized-text size (size ∷ (bytes ++ more)) bytes more (quantity-byte size (bytes ++ more) low) same)

track-tempo : (tempo : ℕ) (more : List ℕ) → pair_at None (0 ∷ 255 ∷ 81 ∷ 3 ∷ (big_bytes 3 tempo ++ more)) ≡ Ok (tempo-pair tempo, more)
unfolding tempo-pair
track-tempo tempo more = pair-parts None (0 ∷ 255 ∷ 81 ∷ 3 ∷ (big_bytes 3 tempo ++ more)) (255 ∷ 81 ∷ 3 ∷ (big_bytes 3 tempo ++ more)) more 0 (Meta 81 (big_bytes 3 tempo)) (quantity-byte 0 (255 ∷ 81 ∷ 3 ∷ (big_bytes 3 tempo ++ more)) (omega arith)) (meta-text None 81 3 (big_bytes 3 tempo) more (omega arith) refl)

track-end : (running : Option ℕ) → pair_at running end-text ≡ Ok (end-pair, [])
unfolding end-text end-pair
track-end running = pair-parts running (0 ∷ 255 ∷ 47 ∷ 0 ∷ []) (255 ∷ 47 ∷ 0 ∷ []) [] 0 (Meta 47 []) (quantity-byte 0 (255 ∷ 47 ∷ 0 ∷ []) (omega arith)) (meta-text running 47 0 [] [] (omega arith) refl)

pub track-pairs : ℕ → List Event → List Pair
track-pairs tempo events = tempo-pair tempo ∷ (pairs-text 0 events ++ end-pair ∷ [])

pub track-whole : (tempo : ℕ) (events : List Event) → bad_event 0 events ≡ None → AllMessages (map (λ e. e.message) events) → IsTrack (track_text tempo events) (track-pairs tempo events)
unfolding track-pairs tempo-pair end-pair end-text
track-whole tempo events h k =
    let inner : Stand None (events_text 0 events ++ end-text) (pairs-text 0 events) end-text = events-stand events 0 None end-text h k in
    let shape : track_text tempo events ≡ 0 ∷ 255 ∷ 81 ∷ 3 ∷ (big_bytes 3 tempo ++ (events_text 0 events ++ end-text)) =
    append_assoc ((0 ∷ 255 ∷ 81 ∷ 3 ∷ []) ++ big_bytes 3 tempo) (events_text 0 events) end-text in
    record {
      before = tempo-pair tempo ∷ pairs-text 0 events;
      last = end-pair;
      after = inner.after;
      rest = end-text;
      unread = [];
      whole = refl;
      stand = (events_text 0 events ++ end-text, ap (pair_at None) shape ∙ track-tempo tempo (events_text 0 events ++ end-text), refl, inner.stand);
      next = track-end inner.after;
      ends = refl;
    }

-- ---- the chunks

-- a track, and what follows it
pub chunk-text : (content rest : List ℕ) → length content < 256 ^ 4 → chunk_at (chunk_text (codes "MTrk") content ++ rest) ≡ Ok (record { is_track = true; content = content }, rest)
unfolding chunk_at
chunk-text content rest small =
    let number : big_number 4 (big_bytes 4 (length content) ++ (content ++ rest)) ≡ length content = big_number-reads_back 4 (length content) (content ++ rest) small in
    let sum : length (content ++ rest) ≡ length content + length rest = length-append content rest in
    let long : nat_le 8 (length (chunk_text (codes "MTrk") content ++ rest)) ≡ true = le-leb 8 (length (chunk_text (codes "MTrk") content ++ rest)) (omega arith) in
    let fits : nat_le (big_number 4 (big_bytes 4 (length content) ++ (content ++ rest))) (length (content ++ rest)) ≡ true = le-leb (big_number 4 (big_bytes 4 (length content) ++ (content ++ rest))) (length (content ++ rest)) (omega arith) in
    rw (long, fits, number, take-append_seam content rest, drop-append_seam content rest) refl

pub header-text : (format tracks division : ℕ) (rest : List ℕ) → format < 65536 → tracks < 65536 → division < 65536 → header_of format tracks division ≡ Ok (record { format = format; tracks = tracks; division = division }) →
    length (header_text format tracks division ++ rest) ≤ 16777216 → header_at (header_text format tracks division ++ rest) ≡ Ok (record { format = format; tracks = tracks; division = division }, rest)
unfolding header_at
header-text format tracks division rest a b d headed small =
    let first : big_number 2 (big_bytes 2 format ++ (big_bytes 2 tracks ++ (big_bytes 2 division ++ rest))) ≡ format = big_number-reads_back 2 format (big_bytes 2 tracks ++ (big_bytes 2 division ++ rest)) (omega arith) in
    let second : big_number 2 (big_bytes 2 tracks ++ (big_bytes 2 division ++ rest)) ≡ tracks = big_number-reads_back 2 tracks (big_bytes 2 division ++ rest) (omega arith) in
    let third : big_number 2 (big_bytes 2 division ++ rest) ≡ division = big_number-reads_back 2 division rest (omega arith) in
    let fits : nat_le (length (header_text format tracks division ++ rest)) 16777216 ≡ true = le-leb _ _ small in
    let long : nat_le 8 (length (header_text format tracks division ++ rest)) ≡ true = le-leb 8 (length (header_text format tracks division ++ rest)) (omega arith) in
    let content : nat_le 6 (length (big_bytes 2 format ++ big_bytes 2 tracks ++ big_bytes 2 division ++ rest)) ≡ true = le-leb 6 (length (big_bytes 2 format ++ big_bytes 2 tracks ++ big_bytes 2 division ++ rest)) (omega arith) in
    rw (fits, long, content, first, second, third, headed) refl

-- ticks per quarter note stand in a header of one track
ticks-header : (ppq : ℕ) → IsTrue (is_ppq ppq) → header_of 0 1 ppq ≡ Ok (record { format = 0; tracks = 1; division = ppq })
unfolding header_of
ticks-header ppq in_range =
    let low : 1 ≤ ppq = leb-true 1 ppq (and_true (nat_le 1 ppq) (nat_le ppq 32767) in_range).0 in
    let high : ppq ≤ 32767 = leb-true ppq 32767 (and_true (nat_le 1 ppq) (nat_le ppq 32767) in_range).1 in
    let some : (ppq == 0) ≡ false = grind (arith, nat_tests) in
    let ticks : nat_le 32768 ppq ≡ false = grind (arith, nat_tests) in
    rw (some, ticks) refl

-- ---- what the file says

append-nil : {A : Type 0} (xs : List A) → xs ++ [] ≡ xs
append-nil [] = refl
append-nil {A = A} (x ∷ xs) = ap (λ (ys : List A). x ∷ ys) (append-nil xs)

spelled-message : (m : List ℕ) → IsMessage m → message_of (event-spelled m) ≡ Some m
unfolding event-spelled
spelled-message [] h = absurd h
spelled-message (s ∷ tail) h =
    go (eqb_tells s 240)
  where
    go : ((s == 240) ≡ true) × (s ≡ 240) ⊎ ((s == 240) ≡ false) × (s ≢ 240) → message_of (if s == 240 then Exclusive tail else Voice s tail) ≡ Some (s ∷ tail)
    go (inl e) =
        let test : is_message (s ∷ tail) ≡ true = message-test (s ∷ tail) h in
        let there : is_message (240 ∷ tail) ≡ true = subst (λ (x : ℕ). is_message (x ∷ tail) ≡ true) e.1 test in
        ap (λ (t : Bool). message_of (if t then Exclusive tail else Voice s tail)) e.0 ∙ ap (λ (t : Bool). if t then Some (240 ∷ tail) else None) there ∙ ap (λ (x : ℕ). Some (x ∷ tail)) (sym e.1)
    go (inr e) = ap (λ (t : Bool). message_of (if t then Exclusive tail else Voice s tail)) e.0

events-said : (events : List Event) (before : ℕ) → bad_event before events ≡ None → AllMessages (map (λ e. e.message) events) → events_from before (pairs-text before events ++ end-pair ∷ []) ≡ events
unfolding pairs-text end-pair
events-said [] before h k = refl
events-said (e ∷ events) before h k =
    let f : Follows before e events = follows before e events h in
    let tick : before + (e.tick - before) ≡ e.tick = (let le : before ≤ e.tick = f.later in omega arith) in
    ap (λ (t : ℕ). event_if t (message_of (event-spelled e.message)) ++ events_from t (pairs-text e.tick events ++ record { delta = 0; event = Meta 47 [] } ∷ [])) tick
    ∙ ap (λ (m : Option (List ℕ)). event_if e.tick m ++ events_from e.tick (pairs-text e.tick events ++ record { delta = 0; event = Meta 47 [] } ∷ [])) (spelled-message e.message k.0)
    ∙ ap (λ (es : List Event). e ∷ es) (events-said events e.tick f.more k.1)

tempo-none : (m : List ℕ) → tempo_of (event-spelled m) ≡ None
unfolding event-spelled
tempo-none [] = refl
tempo-none (s ∷ tail) =
    go (s == 240)
  where
    go : (t : Bool) → tempo_of (if t then Exclusive tail else Voice s tail) ≡ None
    go true = refl
    go false = refl

tempos-none : (events : List Event) (before tick : ℕ) → tempos_from tick (pairs-text before events ++ end-pair ∷ []) ≡ []
unfolding pairs-text end-pair
tempos-none [] before tick = refl
tempos-none (e ∷ events) before tick = ap (λ (t : Option ℕ). entry_if (tick + (e.tick - before)) t ++ tempos_from (tick + (e.tick - before)) (pairs-text e.tick events ++ record { delta = 0; event = Meta 47 [] } ∷ [])) (tempo-none e.message) ∙ tempos-none events e.tick (tick + (e.tick - before))

skipped-none : (m : List ℕ) → IsMessage m → is_skipped true (event-spelled m) ≡ false
unfolding event-spelled
skipped-none [] h = absurd h
skipped-none (s ∷ tail) h =
    go (eqb_tells s 240)
  where
    go : ((s == 240) ≡ true) × (s ≡ 240) ⊎ ((s == 240) ≡ false) × (s ≢ 240) → is_skipped true (if s == 240 then Exclusive tail else Voice s tail) ≡ false
    go (inl e) =
        let test : is_message (s ∷ tail) ≡ true = message-test (s ∷ tail) h in
        let there : is_message (240 ∷ tail) ≡ true = subst (λ (x : ℕ). is_message (x ∷ tail) ≡ true) e.1 test in
        ap (λ (t : Bool). is_skipped true (if t then Exclusive tail else Voice s tail)) e.0 ∙ ap not there
    go (inr e) = ap (λ (t : Bool). is_skipped true (if t then Exclusive tail else Voice s tail)) e.0

none-skipped : (events : List Event) (before : ℕ) → AllMessages (map (λ e. e.message) events) → skipped_in true (pairs-text before events ++ end-pair ∷ []) ≡ 0
unfolding pairs-text end-pair
none-skipped [] before k = refl
none-skipped (e ∷ events) before k =
    ap (λ (t : Bool). (if t then 1 else 0) + skipped_in true (pairs-text e.tick events ++ record { delta = 0; event = Meta 47 [] } ∷ [])) (skipped-none e.message k.0)
    ∙ ap (λ (n : ℕ). 0 + n) (none-skipped events e.tick k.1)

-- written events rise
put-first : (e : Event) (before : ℕ) (events : List Event) → before ≡ e.tick → bad_event before events ≡ None → put_by_tick (λ (x : Event). x.tick) e events ≡ e ∷ events
put-first e before [] same h = refl
put-first e before (d ∷ events) same h =
    let f : Follows before d events = follows before d events h in
    let le : before ≤ d.tick = f.later in
    let test : nat_le e.tick d.tick ≡ true = le-leb e.tick d.tick (omega arith) in
    ap (λ (t : Bool). if t then (e ∷ d ∷ events) else (d ∷ put_by_tick (λ (x : Event). x.tick) e events)) test

pub written-order : (events : List Event) (before : ℕ) → bad_event before events ≡ None → in_order (λ (x : Event). x.tick) events ≡ events
written-order [] before h = refl
written-order (e ∷ events) before h =
    let f : Follows before e events = follows before e events h in
    ap (put_by_tick (λ (x : Event). x.tick) e) (written-order events e.tick f.more) ∙ put-first e e.tick events refl f.more

tempo-said : (tempo : ℕ) → IsTrue (is_tempo tempo) → tempo_in (big_bytes 3 tempo) ≡ Some tempo
tempo-said tempo h =
    let low : 1 ≤ tempo = leb-true 1 tempo (and_true (nat_le 1 tempo) (nat_le tempo 16777215) h).0 in
    let high : tempo ≤ 16777215 = leb-true tempo 16777215 (and_true (nat_le 1 tempo) (nat_le tempo 16777215) h).1 in
    let number : big_number 3 (big_bytes 3 tempo) ≡ tempo = ap (big_number 3) (sym (append-nil (big_bytes 3 tempo))) ∙ big_number-reads_back 3 tempo [] (omega arith) in
    let some : (tempo == 0) ≡ false = grind (arith, nat_tests) in
    rw (number, some) refl

-- ---- together

said-entries : (ppq tempo : ℕ) (events : List Event) → is_frame_division ppq ≡ false → IsTrue (is_tempo tempo) → entries_of (record { format = 0; division = ppq; tracks = track-pairs tempo events ∷ [] }) ≡ record { tick = 0; tempo = tempo } ∷ []
unfolding track-pairs tempo-pair
said-entries ppq tempo events metrical h =
    let first : tempos_from 0 (tempo-pair tempo ∷ (pairs-text 0 events ++ end-pair ∷ [])) ≡ record { tick = 0; tempo = tempo } ∷ [] =
    ap (λ (t : Option ℕ). entry_if 0 t ++ tempos_from 0 (pairs-text 0 events ++ end-pair ∷ [])) (tempo-said tempo h) ∙ ap (λ (ts : List TempoEntry). record { tick = 0; tempo = tempo } ∷ ts) (tempos-none events 0 0) in
    ap (λ (t : Bool). if t then [] else last_at_each (default_entry ∷ in_order (λ (e : TempoEntry). e.tick) (tempos_from 0 (tempo-pair tempo ∷ (pairs-text 0 events ++ end-pair ∷ [])) ++ []))) metrical
    ∙ ap (λ (ts : List TempoEntry). last_at_each (default_entry ∷ in_order (λ (e : TempoEntry). e.tick) (ts ++ []))) first

said-skipped : (ppq tempo : ℕ) (events : List Event) → is_frame_division ppq ≡ false → IsTrue (is_tempo tempo) → AllMessages (map (λ e. e.message) events) → skipped_of (record { format = 0; division = ppq; tracks = track-pairs tempo events ∷ [] }) ≡ 0
unfolding track-pairs tempo-pair
said-skipped ppq tempo events metrical h k =
    ap (λ (t : Bool). skipped_in_all (not t) (track-pairs tempo events ∷ [])) metrical
    ∙ ap (λ (t : Option ℕ). ((if not (is_some t) then 1 else 0) + skipped_in true (pairs-text 0 events ++ end-pair ∷ [])) + 0) (tempo-said tempo h)
    ∙ ap (λ (n : ℕ). (0 + n) + 0) (none-skipped events 0 k)

said-events : (ppq tempo : ℕ) (events : List Event) → bad_event 0 events ≡ None → AllMessages (map (λ e. e.message) events) → events_of (record { format = 0; division = ppq; tracks = track-pairs tempo events ∷ [] }) ≡ events
unfolding track-pairs tempo-pair
said-events ppq tempo events h k =
    ap (in_order (λ (x : Event). x.tick)) (append-nil (events_from 0 (pairs-text 0 events ++ end-pair ∷ [])) ∙ events-said events 0 h k) ∙ written-order events 0 h

pub reads-text : ReadsText
unfolding file_text
reads-text ppq tempo events w =
    let high : ppq ≤ 32767 = leb-true ppq 32767 (and_true (nat_le 1 ppq) (nat_le ppq 32767) w.ppq_is).1 in
    let metrical : is_frame_division ppq ≡ false = grind (arith, nat_tests) in
    let whole : length (chunk_text (codes "MThd") (big_bytes 2 0 ++ big_bytes 2 1 ++ big_bytes 2 ppq) ++ chunk_text (codes "MTrk") (track_text tempo events)) ≤ 16777216 = w.small in
    let small : length (track_text tempo events) < 256 ^ 4 = track-small ppq (track_text tempo events) whole in
    record {
      f = record { format = 0; division = ppq; tracks = track-pairs tempo events ∷ [] };
      file = record {
        header = record { format = 0; tracks = 1; division = ppq };
        after = chunk_text (codes "MTrk") (track_text tempo events);
        items = Track (track-pairs tempo events) ∷ [];
        unread = [];
        headed = header-text 0 1 ppq (chunk_text (codes "MTrk") (track_text tempo events)) (omega arith) (omega arith) (omega arith) (ticks-header ppq w.ppq_is) whole;
        stand = (record { is_track = true; content = track_text tempo events }, [], ap chunk_at (sym (append-nil (chunk_text (codes "MTrk") (track_text tempo events)))) ∙ chunk-text (track_text tempo events) [] small, (refl, track-whole tempo events w.events_are w.messages), refl);
        counted = refl;
        format = refl;
        division = refl;
        tracks = refl;
      };
      format = refl;
      one = refl;
      division = refl;
      entries = said-entries ppq tempo events metrical w.tempo_is;
      says = said-events ppq tempo events w.events_are w.messages;
      skipped = said-skipped ppq tempo events metrical w.tempo_is w.messages;
    }
  where
    track-small : (ppq : ℕ) (content : List ℕ) → length (chunk_text (codes "MThd") (big_bytes 2 0 ++ big_bytes 2 1 ++ big_bytes 2 ppq) ++ chunk_text (codes "MTrk") content) ≤ 16777216 → length content < 256 ^ 4
    track-small ppq content h = omega arith
