-- A track that is played from a place on.
use Rattle.std.proofs.Common.{◌≡◌, ◌≤◌, ℕ, suc, ◌+◌, ◌-◌, ◌*◌, Bool, true, false, List, [], ◌∷◌, ◌++◌, ◌∙◌, length, drop, refl, arith, ap, sym, subst}
use Rattle.std.specs.Prelude.{Option, Some, None, Result, Ok, Err, if◌then◌else◌, is_ok, is_some, IsTrue}
use Rattle.smf_grammar.specs.declared.event.Event.{Event}
use Rattle.smf_grammar.specs.declared.fault.PairFault.{PairFault}
use Rattle.smf_grammar.specs.Pairs.{TrackEvent, Voice, Exclusive, Escape, Meta, Pair, is_end, running_after, pair_at}
use Rattle.smf_grammar.specs.Files.{EndsIn}
use Rattle.smf_grammar.specs.Reading.{Pairs, with_pair, pairs_by, pairs_from}
use Rattle.smf_grammar.specs.Contents.{message_of, event_if, events_from}
use Rattle.smf_grammar.specs.Seen.{IsRunning, is_event_sound}
use Rattle.smf_grammar.proofs.Whole.{pairs-end, end-pairs}
use Rattle.smf_grammar.proofs.Sound.{sound-running}
use Rattle.smf_files.specs.Kept.{pairs_or_none}
use Rattle.smf_files.specs.declared.heads.TrackHead.{TrackHead}
use Rattle.smf_files.specs.Playing.{first_event, after_first, event_in, left_in, left_of, events_at_head, to_come, rest_of, is_whole, IsAtMessage, IsPlaceIn}
use Rattle.smf_files.proofs.Suffixes.{IsRest, rest-shorter, rest-by-length}

pub whole-fault : (running : Option ℕ) (left : List ℕ) (f : PairFault) → IsTrue (is_whole running left) → pair_at running left ≡ Err f → ⊥
unfolding is_whole pairs_from
whole-fault running left f whole e =
    let bad : is_ok (pairs_by (pairs_from (length left)) left (Err f)) ≡ true = sym (ap (λ (r : Result (Pair × List ℕ) PairFault). is_ok (pairs_by (pairs_from (length left)) left r)) e) ∙ whole in
    (let none : false ≡ true = bad in cc)

pub whole-last : (running : Option ℕ) (left more : List ℕ) (p : Pair) → pair_at running left ≡ Ok (p, more) → is_end p.event ≡ true → rest_of running left ≡ p ∷ []
unfolding rest_of pairs_from
whole-last running left more p e ends =
    ap (λ (r : Result (Pair × List ℕ) PairFault). pairs_or_none (pairs_by (pairs_from (length left)) left r)) e
    ∙ ap (λ (t : Bool). pairs_or_none (if t then Ok (p ∷ []) else with_pair p (pairs_from (length left) (running_after p.event) more))) ends

pub record More (running : Option ℕ) (left more : List ℕ) (p : Pair) : Type 0 where
  pub whole : IsTrue (is_whole (running_after p.event) more)
  pub rest : rest_of running left ≡ p ∷ rest_of (running_after p.event) more

pub whole-more : (running : Option ℕ) (left more : List ℕ) (p : Pair) → IsTrue (is_whole running left) → pair_at running left ≡ Ok (p, more) → is_end p.event ≡ false → More running left more p
unfolding is_whole rest_of pairs_from
whole-more running left more p whole e ends =
    go (pairs_from (length left) (running_after p.event) more) refl (sym here ∙ whole)
  where
    step : (f : Pairs → Bool) → Type 0
    step f = Unit {0}

    read : pairs_from (suc (length left)) running left ≡ with_pair p (pairs_from (length left) (running_after p.event) more)
    read = ap (pairs_by (pairs_from (length left)) left) e ∙ ap (λ (t : Bool). if t then Ok (p ∷ []) else with_pair p (pairs_from (length left) (running_after p.event) more)) ends

    here : is_ok (pairs_from (suc (length left)) running left) ≡ is_ok (with_pair p (pairs_from (length left) (running_after p.event) more))
    here = ap is_ok read

    go : (r : Pairs) → pairs_from (length left) (running_after p.event) more ≡ r → is_ok (with_pair p (pairs_from (length left) (running_after p.event) more)) ≡ true → More running left more p
    go (Err stop) is ok = let bad : false ≡ true = sym (ap (λ (r : Pairs). is_ok (with_pair p r)) is) ∙ ok in let none : ⊥ = cc in absurd none
    go (Ok qs) is ok =
        let w : EndsIn (running_after p.event) more qs = pairs-end (length left) (running_after p.event) more qs is in
        let again : pairs_from (suc (length more)) (running_after p.event) more ≡ Ok qs =
        end-pairs w.before (suc (length more)) (running_after p.event) w.after more w.rest w.unread w.last (omega arith) w.stand w.next w.ends ∙ ap (λ (xs : List Pair). Ok xs) (sym w.whole) in
        record {
          whole = ap is_ok again;
          rest = ap pairs_or_none (read ∙ ap (with_pair p) is) ∙ ap (λ (xs : List Pair). p ∷ xs) (sym (ap pairs_or_none again));
        }

end-message : (e : TrackEvent) → is_end e ≡ true → message_of e ≡ None
end-message (Voice status payload) h = let bad : ⊥ = cc in absurd bad
end-message (Exclusive bytes) h = let bad : ⊥ = cc in absurd bad
end-message (Escape bytes) h = refl
end-message (Meta kind bytes) h = refl

append_nil : (xs : List Event) → xs ++ [] ≡ xs
append_nil [] = refl
append_nil (x ∷ xs) = ap (λ (ys : List Event). x ∷ ys) (append_nil xs)

-- nothing comes after the end
pub events-last : (tick : ℕ) (running : Option ℕ) (left more : List ℕ) (p : Pair) → pair_at running left ≡ Ok (p, more) → is_end p.event ≡ true → events_from tick (rest_of running left) ≡ []
events-last tick running left more p e ends =
    ap (events_from tick) (whole-last running left more p e ends) ∙ ap (λ (m : Option (List ℕ)). event_if (tick + p.delta) m ++ []) (end-message p.event ends)

-- a pair, and what comes after it
pub events-more : (tick : ℕ) (running : Option ℕ) (left more : List ℕ) (p : Pair) → More running left more p → events_from tick (rest_of running left) ≡ event_if (tick + p.delta) (message_of p.event) ++ events_from (tick + p.delta) (rest_of (running_after p.event) more)
events-more tick running left more p w = ap (events_from tick) w.rest

-- a pair that is no message gives nothing
pub silent : (tick : ℕ) (m : Option (List ℕ)) (es : List Event) → is_some m ≡ false → event_if tick m ++ es ≡ es
silent tick None es h = refl
silent tick (Some message) es h = let bad : ⊥ = cc in absurd bad

-- the running status after a sound event is one of a channel
pub sound-status : (e : TrackEvent) → IsTrue (is_event_sound e) → IsRunning (running_after e)
sound-status e h = sound-running e h

-- the head of a message that stands first in what is left of a track
pub found : (tick : ℕ) (running : Option ℕ) (left more entry : List ℕ) (p : Pair) (h : TrackHead) → IsRest left entry → pair_at running left ≡ Ok (p, more) →
    h.tick ≡ tick → h.left ≡ length left → h.running ≡ running → IsTrue (is_some (message_of p.event)) → IsTrue (is_event_sound p.event) → IsRunning running →
    IsTrue (is_whole (running_after p.event) more) → tick + length more * 268435456 ≤ 4503599627370496 → IsPlaceIn entry h × (to_come entry h ≡ event_if tick (message_of p.event) ++ events_from tick (rest_of (running_after p.event) more))
found tick running left more entry p h rest e when size status some sound before whole early =
    let at : left_of entry h ≡ left = ap (λ (n : ℕ). drop (length entry - n) entry) size ∙ rest-by-length left entry rest in
    let read : pair_at h.running left ≡ Ok (p, more) = ap (λ (o : Option ℕ). pair_at o left) status ∙ e in
    let event : event_in h left ≡ p.event = ap first_event read in
    let behind : left_in h left ≡ more = ap after_first read in
    let short : length left ≤ length entry = rest-shorter left entry rest in (
      record {
        within = omega arith;
        next = subst (λ (xs : List ℕ). IsAtMessage h xs) (sym at) (record {
          some = ap (λ (x : TrackEvent). is_some (message_of x)) event ∙ some;
          sound = ap is_event_sound event ∙ sound;
          status = subst IsRunning (sym status) before;
          whole = ap (λ (x : TrackEvent). is_whole (running_after x) (left_in h left)) event ∙ ap (is_whole (running_after p.event)) behind ∙ whole;
          early = subst (λ (xs : List ℕ). h.tick + length xs * 268435456 ≤ 4503599627370496) (sym behind) (omega arith);
        });
      },
      ap (events_at_head h) at
          ∙ ap (λ (r : Result (Pair × List ℕ) PairFault). event_if h.tick (message_of (first_event r)) ++ events_from h.tick (rest_of (running_after (first_event r)) (after_first r))) read
          ∙ ap (λ (t : ℕ). event_if t (message_of p.event) ++ events_from t (rest_of (running_after p.event) more)) when,
    )
