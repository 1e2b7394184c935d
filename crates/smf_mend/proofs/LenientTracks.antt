-- A track that the lenient grammar takes, read pair by pair.
use Rattle.std.proofs.Common.{◌≡◌, ◌≤◌, ℕ, suc, ◌+◌, ◌-◌, Bool, true, false, List, [], ◌∷◌, ◌++◌, ◌∙◌, length, refl, arith, ap, sym, append_assoc, append-nil}
use Rattle.std.specs.Prelude.{Option, Some, None, Ok, Err, if◌then◌else◌, IsTrue}
use Rattle.std.specs.List.{AllByRecursion}
use Rattle.smf_grammar.specs.declared.fault.PairFault.{PairFault}
use Rattle.smf_grammar.specs.Pairs.{TrackEvent, Voice, Exclusive, Escape, Meta, Pair, is_end, running_after}
use Rattle.smf_grammar.specs.Files.{fault_of_pair}
use Rattle.smf_grammar.specs.Seen.{IsRunning, is_event_sound}
use Rattle.smf_grammar.specs.Written.{BadPair, can_stand, refused_after_end, track_refusal}
use Rattle.smf_grammar.proofs.Sound.{sound-running}
use Rattle.smf_mend.specs.declared.forgiven.Forgiven.{Forgiven}
use Rattle.smf_mend.specs.declared.forgiven.Tally.{Tally}
use Rattle.smf_mend.specs.Lenient.{lenient_running, lenient_pair_at, AreLenientPairs, LenientTrackFault}
use Rattle.smf_mend.specs.Forgiving.{Forgives, forgives_status, forgives_data, left_behind, place_if, pair_places, track_places}
use Rattle.smf_mend.specs.Tallies.{times_of, with_place, with_places, IsBelow, IsTrackTaken}

-- ---- running statuses

pub lenient-status : (before : Option ℕ) (e : TrackEvent) → IsRunning before → IsTrue (is_event_sound e) → IsRunning (lenient_running before e)
lenient-status before (Voice status payload) h k = sound-running (Voice status payload) k
lenient-status before (Exclusive bytes) h k = h
lenient-status before (Escape bytes) h k = h
lenient-status before (Meta kind bytes) h k = h

-- that of the strict grammar after pairs
abbrev pub strict_end : Option ℕ → List Pair → Option ℕ
strict_end strict [] = strict
strict_end strict (p ∷ ps) = strict_end (running_after p.event) ps

strict-snoc : (strict : Option ℕ) (ps : List Pair) (p : Pair) → strict_end strict (ps ++ p ∷ []) ≡ running_after p.event
strict-snoc strict [] p = refl
strict-snoc strict (q ∷ ps) p = strict-snoc (running_after q.event) ps p

-- ---- one more pair

lenient-snoc : (ps : List Pair) (start running : Option ℕ) (content left more : List ℕ) (p : Pair) → AreLenientPairs start content ps running left → lenient_pair_at running left ≡ Ok (p, more) → is_end p.event ≡ false →
    AreLenientPairs start content (ps ++ p ∷ []) (lenient_running running p.event) more
lenient-snoc [] start running content left more p stand next ends = (more, rw (stand.0, stand.1) next, ends, (ap (λ (r : Option ℕ). lenient_running r p.event) stand.0, refl))
lenient-snoc (q ∷ ps) start running content left more p stand next ends = (stand.0, stand.1, stand.2, lenient-snoc ps (lenient_running start q.event) running stand.0 left more p stand.3 next ends)

module _ (forgives : Forgives) (place size : ℕ) where
  abbrev mark_at : Option ℕ → List ℕ → List ℕ
  mark_at strict left = place_if (forgives strict left) (place + (size - length left))

  places-snoc : (ps : List Pair) (strict0 strict start running : Option ℕ) (content left : List ℕ) (p : Pair) → AreLenientPairs start content ps running left → strict_end strict0 ps ≡ strict →
      pair_places forgives place size strict0 start content (ps ++ p ∷ []) ≡ pair_places forgives place size strict0 start content ps ++ mark_at strict left
  places-snoc [] strict0 strict start running content left p stand same =
      append-nil (mark_at strict0 content) ∙ ap (λ (s : Option ℕ). mark_at s content) same ∙ ap (mark_at strict) stand.1
  places-snoc (q ∷ ps) strict0 strict start running content left p stand same =
      let behind : left_behind (lenient_pair_at start content) ≡ stand.0 = ap left_behind stand.1 in
      ap (λ (l : List ℕ). mark_at strict0 content ++ pair_places forgives place size (running_after q.event) (lenient_running start q.event) l (ps ++ p ∷ [])) behind
      ∙ ap (λ (xs : List ℕ). mark_at strict0 content ++ xs) (places-snoc ps (running_after q.event) strict (lenient_running start q.event) running stand.0 left p stand.3 same)
      ∙ sym (append_assoc (mark_at strict0 content) (pair_places forgives place size (running_after q.event) (lenient_running start q.event) stand.0 ps) (mark_at strict left))
      ∙ ap (λ (l : List ℕ). (mark_at strict0 content ++ pair_places forgives place size (running_after q.event) (lenient_running start q.event) l ps) ++ mark_at strict left) (sym behind)

pub places-append : (o : Option Forgiven) (xs ys : List ℕ) → with_places o (xs ++ ys) ≡ with_places (with_places o xs) ys
places-append o [] ys = refl
places-append o (x ∷ xs) ys = places-append (with_place o x) xs ys

-- ---- pairs that can be written

-- a pair that others may follow
pub record IsGoing (p : Pair) : Type 0 where
  pub stands : can_stand p ≡ true
  pub going : is_end p.event ≡ false

going-more : (ps : List Pair) (p : Pair) → AllByRecursion IsGoing ps → IsGoing p → AllByRecursion IsGoing (ps ++ p ∷ [])
going-more [] p all is = (is, tt)
going-more (q ∷ ps) p all is = (all.0, going-more ps p all.1 is)

track-can : (track at : ℕ) (ps : List Pair) (p : Pair) → AllByRecursion IsGoing ps → can_stand p ≡ true → is_end p.event ≡ true → track_refusal track at (ps ++ p ∷ []) ≡ None
track-can track at [] p all stands ends =
    ap (λ (t : Bool). if t then (if is_end p.event then None else track_refusal track (suc at) []) else Some (BadPair track at)) stands
    ∙ ap (λ (t : Bool). if t then None else track_refusal track (suc at) []) ends
track-can track at (q ∷ ps) p all stands ends =
    ap (λ (t : Bool). if t then (if is_end q.event then refused_after_end track at (ps ++ p ∷ []) else track_refusal track (suc at) (ps ++ p ∷ [])) else Some (BadPair track at)) all.0.stands
    ∙ ap (λ (t : Bool). if t then refused_after_end track at (ps ++ p ∷ []) else track_refusal track (suc at) (ps ++ p ∷ [])) all.0.going
    ∙ track-can track (suc at) ps p all.1 stands ends

-- ---- what was taken of the pairs before this place

pub record Taken (content : List ℕ) (place : ℕ) (strict running : Option ℕ) (left : List ℕ) (pairs : List Pair) (old new : Tally) : Type 0 where
  pub stand : AreLenientPairs None content pairs running left
  pub strict_is : strict_end None pairs ≡ strict
  pub going : AllByRecursion IsGoing pairs
  pub status : new.running_status ≡ with_places old.running_status (track_places forgives_status place content pairs)
  pub data_bytes : new.high_data ≡ with_places old.high_data (track_places forgives_data place content pairs)

pub nothing-taken : (content : List ℕ) (place : ℕ) (tally : Tally) → Taken content place None None content [] tally tally
nothing-taken content place tally = record { stand = (refl, refl); strict_is = refl; going = tt; status = refl; data_bytes = refl }

-- the next pair, with what was forgiven of it
pub record Next (content : List ℕ) (place : ℕ) (strict running : Option ℕ) (left more : List ℕ) (p : Pair) (before after : Tally) : Type 0 where
  pub next : lenient_pair_at running left ≡ Ok (p, more)
  pub can : can_stand p ≡ true
  pub status : after.running_status ≡ with_places before.running_status (place_if (forgives_status strict left) (place + (length content - length left)))
  pub data_bytes : after.high_data ≡ with_places before.high_data (place_if (forgives_data strict left) (place + (length content - length left)))

module _ (content : List ℕ) (place : ℕ) (strict running : Option ℕ) (left more : List ℕ) (p : Pair) (pairs : List Pair) (old before after : Tally)
    (w : Taken content place strict running left pairs old before) (n : Next content place strict running left more p before after) where
  noted : (forgives : Forgives) (first so_far now : Option Forgiven) → so_far ≡ with_places first (track_places forgives place content pairs) → now ≡ with_places so_far (place_if (forgives strict left) (place + (length content - length left))) →
      now ≡ with_places first (track_places forgives place content (pairs ++ p ∷ []))
  noted forgives first so_far now a b =
      b ∙ ap (λ (o : Option Forgiven). with_places o (place_if (forgives strict left) (place + (length content - length left)))) a
      ∙ sym (places-append first (track_places forgives place content pairs) (place_if (forgives strict left) (place + (length content - length left))))
      ∙ ap (with_places first) (sym (places-snoc forgives place (length content) pairs None strict None running content left p w.stand w.strict_is))

  pub taken-step : is_end p.event ≡ false → (strict' running' : Option ℕ) (pairs' : List Pair) → strict' ≡ running_after p.event → running' ≡ lenient_running running p.event → pairs' ≡ pairs ++ p ∷ [] →
      Taken content place strict' running' more pairs' old after
  taken-step ends strict' running' pairs' a b c =
      let whole : Taken content place (running_after p.event) (lenient_running running p.event) more (pairs ++ p ∷ []) old after = record {
        stand = lenient-snoc pairs None running content left more p w.stand n.next ends;
        strict_is = strict-snoc None pairs p;
        going = going-more pairs p w.going (record { stands = n.can; going = ends });
        status = noted forgives_status old.running_status before.running_status after.running_status w.status n.status;
        data_bytes = noted forgives_data old.high_data before.high_data after.high_data w.data_bytes n.data_bytes;
      } in
      rw (a, b, c) whole

  pub taken-end : is_end p.event ≡ true → (pairs' : List Pair) → pairs' ≡ pairs ++ p ∷ [] → IsTrackTaken content place pairs' old after
  taken-end ends pairs' c =
      let whole : IsTrackTaken content place (pairs ++ p ∷ []) old after = record {
        track = record { before = pairs; last = p; after = running; rest = left; unread = more; whole = refl; stand = w.stand; next = n.next; ends = ends };
        can = λ track. track-can track 0 pairs p w.going n.can ends;
        status = noted forgives_status old.running_status before.running_status after.running_status w.status n.status;
        data_bytes = noted forgives_data old.high_data before.high_data after.high_data w.data_bytes n.data_bytes;
      } in
      rw c whole

pub taken-fault : (content : List ℕ) (place : ℕ) (strict running : Option ℕ) (left : List ℕ) (pairs : List Pair) (old new : Tally) (track : ℕ) (fault : PairFault) →
    Taken content place strict running left pairs old new → lenient_pair_at running left ≡ Err fault → LenientTrackFault content track place (fault_of_pair fault track (place + (length content - length left)))
taken-fault content place strict running left pairs old new track fault w next = record { fault = fault; rest = left; stops = record { before = pairs; after = running; stand = w.stand; next = next }; told = refl }

-- ---- bounds

pub below-more : (tally : Tally) (few many : ℕ) → IsBelow tally few → few ≤ many → IsBelow tally many
below-more tally few many b h =
    let status : times_of tally.running_status ≤ few = b.status in
    let high : times_of tally.high_data ≤ few = b.data_bytes in
    record { status = omega arith; data_bytes = omega arith }
