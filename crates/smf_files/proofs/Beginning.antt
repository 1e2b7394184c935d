-- The heads at the beginning of a file.
use Rattle.std.proofs.Common.{◌≡◌, ◌≤◌, ◌<◌, ℕ, suc, ◌+◌, Bool, true, false, cond, List, [], ◌∷◌, ◌++◌, ◌∙◌, length, map, drop, get_or, refl, arith, ap, sym, subst, append_assoc, inl, inr}
use Rattle.std.specs.Prelude.{Option, Some, None, All, IfSome, if◌then◌else◌, IsTrue, nat_le, is_ok, ◌==◌, count_by}
use Rattle.std.specs.List.{flat_map, list_all}
use Rattle.std.specs.List.Sorted.{IsPermutation}
use Rattle.std.specs.Option.{option_to_list}
use Rattle.std.proofs.lemmas.List.{drop_more, drop_all}
use Rattle.std.proofs.lemmas.List.Elements.{All-head, All-tail, All-nil, All-push, All-weaker}
use Rattle.std.proofs.lemmas.List.Sorted.{All-permutation}
use Rattle.std.proofs.lemmas.List.Sums.{sum_by_push, sum_by-cons, AllPass-from_list_all}
use Rattle.std.proofs.lemmas.Bool.{le-leb, leb-true}
use Rattle.std.proofs.lemmas.Bool.Decides.{eqb_tells, nat_tests}
use Rattle.midi_wire.proofs.Written.{and_true}
use Rattle.smf_grammar.specs.declared.event.Event.{Event}
use Rattle.smf_grammar.specs.Contents.{put_by_tick, in_order, events_from}
use Rattle.smf_grammar.specs.Reading.{pairs_from, pairs_of}
use Rattle.smf_files.specs.Kept.{pairs_seen, is_track}
use Rattle.smf_files.specs.declared.heads.TrackHead.{TrackHead}
use Rattle.smf_files.specs.Playing.{rest_of, is_whole, to_come, to_come_if, content_of, still_to_come, all_events, IsPlaceIn, IsHead, AreApart, IsHeapFrom, IsPlaying}
use Rattle.smf_files.proofs.Apart.{apart-moved, sorted-alike}
use Rattle.smf_files.proofs.Merging.{comes}

abbrev track : TrackHead → ℕ
track h = h.track

abbrev pub starts_at : List (List ℕ) → List Event
starts_at contents = flat_map (events_from 0) (map pairs_seen contents)

-- so many tracks have their heads
pub record TakenUp (contents : List (List ℕ)) (i : ℕ) (heads : List TrackHead) : Type 0 where
  pub heads_are : All (IsHead contents) heads
  pub below : All (λ h. h.track < i) heads
  pub apart : AreApart heads
  pub rise : in_order track heads ≡ heads
  pub come : flat_map (comes contents) heads ++ starts_at (drop i contents) ≡ starts_at contents

pub none-taken : (contents : List (List ℕ)) → TakenUp contents 0 []
none-taken contents = record { heads_are = All-nil (IsHead contents); below = All-nil (λ h. h.track < 0); apart = λ t. omega arith; rise = refl; come = refl }

pub content-fit : (contents : List (List ℕ)) (i : ℕ) → IsTrue (list_all is_track contents) → i < length contents → IsTrue (is_whole None (get_or contents i [])) × (length (get_or contents i []) ≤ 16777216)
unfolding is_whole pairs_of
content-fit contents i h lt =
    let a : IsTrue (is_track (get_or contents i [])) = AllPass-from_list_all is_track contents h i [] lt in
    let b : _ = and_true (is_ok (pairs_from (suc (length (get_or contents i []))) None (get_or contents i []))) (nat_le (length (get_or contents i [])) 16777216) a in
    (b.0, leb-true (length (get_or contents i [])) 16777216 b.1)

append-nothing : {X : Type 0} (xs : List X) → xs ++ [] ≡ xs
append-nothing [] = refl
append-nothing {X} (x ∷ xs) = ap (λ (ys : List X). x ∷ ys) (append-nothing xs)

flat-push : (contents : List (List ℕ)) (hs : List TrackHead) (h : TrackHead) → flat_map (comes contents) (hs ++ h ∷ []) ≡ flat_map (comes contents) hs ++ comes contents h
flat-push contents [] h = append-nothing (comes contents h)
flat-push contents (x ∷ hs) h = ap (λ (es : List Event). comes contents x ++ es) (flat-push contents hs h) ∙ sym (append_assoc (comes contents x) (flat_map (comes contents) hs) (comes contents h))

put-push : (x h : TrackHead) (ys : List TrackHead) → x.track < h.track → put_by_tick track x (ys ++ h ∷ []) ≡ put_by_tick track x ys ++ h ∷ []
put-push x h [] less = let le : x.track ≤ h.track = omega arith in ap (λ (t : Bool). if t then (x ∷ h ∷ []) else (h ∷ x ∷ [])) (le-leb x.track h.track le)
put-push x h (y ∷ ys) less =
    go (nat_le x.track y.track) (put-push x h ys less)
  where
    go : (t : Bool) → put_by_tick track x (ys ++ h ∷ []) ≡ put_by_tick track x ys ++ h ∷ [] → (if t then (x ∷ y ∷ (ys ++ h ∷ [])) else (y ∷ put_by_tick track x (ys ++ h ∷ []))) ≡ (if t then (x ∷ y ∷ ys) else (y ∷ put_by_tick track x ys)) ++ h ∷ []
    go true again = refl
    go false again = ap (λ (zs : List TrackHead). y ∷ zs) again

order-push : (hs : List TrackHead) (h : TrackHead) → All (λ k. k.track < h.track) hs → in_order track (hs ++ h ∷ []) ≡ in_order track hs ++ h ∷ []
order-push [] h a = refl
order-push (x ∷ hs) h a =
    ap (put_by_tick track x) (order-push hs h (All-tail (λ k. k.track < h.track) x hs a))
    ∙ put-push x h (in_order track hs) (All-head (λ k. k.track < h.track) x hs a)

abbrev one : ℕ → TrackHead → ℕ
one t h = cond (h.track == t) 1 0

none-there : (t : ℕ) (hs : List TrackHead) → All (λ k. k.track < t) hs → count_by (λ k. k.track == t) hs ≡ 0
none-there t [] a = refl
none-there t (x ∷ hs) a =
    let sum : count_by (λ k. k.track == t) (x ∷ hs) ≡ one t x + count_by (λ k. k.track == t) hs = sum_by-cons (one t) x hs in
    let less : x.track < t = All-head (λ k. k.track < t) x hs a in
    let no : (x.track == t) ≡ false = grind (arith, nat_tests) in
    let zero' : one t x ≡ 0 = ap (λ (b : Bool). cond b 1 0) no in
    let again : count_by (λ k. k.track == t) hs ≡ 0 = none-there t hs (All-tail (λ k. k.track < t) x hs a) in
    omega arith

apart-push : (hs : List TrackHead) (h : TrackHead) → AreApart hs → All (λ k. k.track < h.track) hs → AreApart (hs ++ h ∷ [])
apart-push hs h a below t =
    let sum : count_by (λ k. k.track == t) (hs ++ h ∷ []) ≡ count_by (λ k. k.track == t) hs + one t h = sum_by_push (one t) hs h in
    let most : count_by (λ k. k.track == t) hs ≤ 1 = a t in
    elim (eqb_tells h.track t) as (λ _. count_by (λ k. k.track == t) (hs ++ h ∷ []) ≤ 1) [
      | inl e ↦ (let here : one t h ≡ 1 = ap (λ (b : Bool). cond b 1 0) e.0 in
          let none : count_by (λ k. k.track == t) hs ≡ 0 = subst (λ (n : ℕ). count_by (λ k. k.track == n) hs ≡ 0) e.1 (none-there h.track hs below) in
          omega arith)
      | inr e ↦ (let gone : one t h ≡ 0 = ap (λ (b : Bool). cond b 1 0) e.0 in omega arith)
    ]

-- one more track has its head, where it is not over
pub one-taken : (contents : List (List ℕ)) (i : ℕ) (heads heads' : List TrackHead) (content : List ℕ) (next : Option TrackHead) → TakenUp contents i heads → i < length contents → content ≡ get_or contents i [] →
    to_come_if content next ≡ events_from 0 (rest_of None content) → IfSome next (λ h. IsPlaceIn content h) → IfSome next (λ h. h.track ≡ i) → heads' ≡ heads ++ option_to_list next → TakenUp contents (i + 1) heads'
unfolding rest_of pairs_of
one-taken contents i heads heads' content next w lt here come places tracks grown =
    subst (λ (hs : List TrackHead). TakenUp contents (i + 1) hs) (sym grown) (go next come places tracks)
  where
    more : starts_at (drop i contents) ≡ events_from 0 (pairs_seen content) ++ starts_at (drop (i + 1) contents)
    more = ap starts_at (drop_more contents i [] lt) ∙ ap (λ (xs : List ℕ). events_from 0 (pairs_seen xs) ++ starts_at (drop (i + 1) contents)) (sym here)

    further : All (λ h. h.track < i + 1) heads
    further = All-weaker (λ h. h.track < i) (λ h. h.track < i + 1) (λ h less. omega arith) heads w.below

    go : (n : Option TrackHead) → to_come_if content n ≡ events_from 0 (rest_of None content) → IfSome n (λ h. IsPlaceIn content h) → IfSome n (λ h. h.track ≡ i) → TakenUp contents (i + 1) (heads ++ option_to_list n)
    go None come places tracks =
        subst (λ (hs : List TrackHead). TakenUp contents (i + 1) hs) (sym (append-nothing heads)) (record {
          heads_are = w.heads_are;
          below = further;
          apart = w.apart;
          rise = w.rise;
          come = ap (λ (es : List Event). flat_map (comes contents) heads ++ (es ++ starts_at (drop (i + 1) contents))) come ∙ ap (λ (es : List Event). flat_map (comes contents) heads ++ es) (sym more) ∙ w.come;
        })
    go (Some h) come place same =
        let at : content ≡ content_of contents h = here ∙ ap (λ (k : ℕ). get_or contents k []) (sym same) in
        let below : All (λ k. k.track < h.track) heads = subst (λ (k : ℕ). All (λ g. g.track < k) heads) (sym same) w.below in
        let told : comes contents h ≡ events_from 0 (pairs_seen content) = ap (λ (xs : List ℕ). to_come xs h) (sym at) ∙ come in
        record {
          heads_are = All-push (IsHead contents) heads h w.heads_are (record { track = omega arith; place = subst (λ (xs : List ℕ). IsPlaceIn xs h) at place });
          below = All-push (λ k. k.track < i + 1) heads h further (omega arith);
          apart = apart-push heads h w.apart below;
          rise = order-push heads h below ∙ ap (λ (hs : List TrackHead). hs ++ h ∷ []) w.rise;
          come =
              ap (λ (es : List Event). es ++ starts_at (drop (i + 1) contents)) (flat-push contents heads h)
              ∙ append_assoc (flat_map (comes contents) heads) (comes contents h) (starts_at (drop (i + 1) contents))
              ∙ ap (λ (es : List Event). flat_map (comes contents) heads ++ (es ++ starts_at (drop (i + 1) contents))) told
              ∙ ap (λ (es : List Event). flat_map (comes contents) heads ++ es) (sym more) ∙ w.come;
        }

pub taken-playing : (contents : List (List ℕ)) (i : ℕ) (heads heads' : List TrackHead) → TakenUp contents i heads → IsPermutation heads heads' → IsHeapFrom 0 heads' → IsPlaying contents heads'
taken-playing contents i heads heads' w moved heap = record {
  heads_are = All-permutation (IsHead contents) heads heads' moved w.heads_are;
  apart = apart-moved heads heads' moved w.apart;
  order = heap;
}

pub all-taken : (contents : List (List ℕ)) (i : ℕ) (heads heads' : List TrackHead) → TakenUp contents i heads → length contents ≤ i → IsPermutation heads heads' → still_to_come contents heads' ≡ all_events contents
all-taken contents i heads heads' w all moved =
    ap (λ (hs : List TrackHead). in_order (λ e. e.tick) (flat_map (comes contents) hs)) (sorted-alike heads heads' moved w.apart ∙ w.rise)
    ∙ ap (in_order (λ e. e.tick)) (sym (append-nothing (flat_map (comes contents) heads)) ∙ ap (λ (cs : List (List ℕ)). flat_map (comes contents) heads ++ starts_at cs) (sym (drop_all i contents all)) ∙ w.come)
