-- The next event of several tracks.
use Rattle.std.proofs.Common.{◌≡◌, ◌≢◌, ◌≤◌, ◌<◌, ℕ, zero, suc, ◌+◌, ◌-◌, Bool, true, false, List, [], ◌∷◌, ◌++◌, ◌∙◌, length, drop, get_or, refl, arith, ap, sym, subst, append_assoc, ◌⊎◌, inl, inr}
use Rattle.std.specs.Prelude.{Option, Some, None, Result, Ok, Err, All, IfSome, if◌then◌else◌, IsTrue, nat_le, nat_lt, ◌==◌, ◌&&◌, ◌||◌, is_some, slice_get}
use Rattle.std.specs.List.{flat_map, AllByRecursion}
use Rattle.std.specs.List.Sorted.{IsPermutation}
use Rattle.std.specs.Option.{option_map, option_to_list}
use denote.Ref.{Bor}
use Rattle.std.proofs.lemmas.List.Elements.{All-head, All-tail, All-cons}
use Rattle.std.proofs.lemmas.List.Sorted.{All-permutation}
use Rattle.std.proofs.lemmas.Bool.{le-leb}
use Rattle.std.proofs.lemmas.Bool.Decides.{leb_tells, eqb_tells, nat_tests}
use Rattle.smf_grammar.specs.declared.event.Event.{Event}
use Rattle.smf_grammar.specs.declared.fault.PairFault.{PairFault}
use Rattle.smf_grammar.specs.Pairs.{TrackEvent, Pair, pair_at}
use Rattle.smf_grammar.specs.Pairs as grammar
use Rattle.midi_wire.specs.Messages.{is_message}
use Rattle.midi_wire.proofs.Makers.{kind-F0}
use Rattle.smf_grammar.specs.Contents.{put_by_tick, in_order, message_of, event_if, events_from}
use Rattle.smf_files.specs.declared.heads.TrackHead.{TrackHead}
use Rattle.smf_files.specs.Playing.{event_in, running_in, left_in, left_of, rest_of, events_at_head, to_come, to_come_if, content_of, still_to_come, IsAtMessage, IsPlaceIn, IsHead, AreApart, is_later, IsHeapFrom, IsPlaying, IsExclusive, IsNextExclusive, first_event, after_first}
use Rattle.smf_files.proofs.Sorting.{NoneBelow, below-less, below-put}
use Rattle.smf_files.proofs.Heaps.{top-not-later}
use Rattle.smf_files.proofs.Chunks.{nows, count-now}
use Rattle.smf_files.proofs.Apart.{apart-next, apart-moved, sorted-alike}
use Rattle.smf_files.proofs.Suffixes.{IsRest, rest-trans, rest-drop, rest-shorter, rest-last, pair-rest}

abbrev tick : Event → ℕ
tick e = e.tick

-- ---- the first of a sort

abbrev From : ℕ → List Event → Type 0
From t es = NoneBelow tick t es

from-append : (t : ℕ) (xs ys : List Event) → From t xs → From t ys → From t (xs ++ ys)
from-append t [] ys h k = k
from-append t (x ∷ xs) ys h k = (h.0, from-append t xs ys h.1 k)

from-order : (t : ℕ) (xs : List Event) → From t xs → From t (in_order tick xs)
from-order t [] h = tt
from-order t (x ∷ xs) h = below-put tick t x (in_order tick xs) h.0 (from-order t xs h.1)

put-front : (e : Event) (ys : List Event) → From e.tick ys → put_by_tick tick e ys ≡ e ∷ ys
put-front e [] h = refl
put-front e (y ∷ ys) h = let le : e.tick ≤ y.tick = h.0 in ap (λ (t : Bool). if t then (e ∷ y ∷ ys) else (y ∷ put_by_tick tick e ys)) (le-leb e.tick y.tick le)

put-behind : (a e : Event) (ys : List Event) → e.tick < a.tick → put_by_tick tick a (e ∷ ys) ≡ e ∷ put_by_tick tick a ys
put-behind a e ys h = let no : nat_le a.tick e.tick ≡ false = grind (arith, nat_tests) in ap (λ (t : Bool). if t then (a ∷ e ∷ ys) else (e ∷ put_by_tick tick a ys)) no

pub sort-front : (xs : List Event) (e : Event) (ys : List Event) → From (suc e.tick) xs → From e.tick ys → in_order tick (xs ++ e ∷ ys) ≡ e ∷ in_order tick (xs ++ ys)
sort-front [] e ys h k = put-front e (in_order tick ys) (from-order e.tick ys k)
sort-front (x ∷ xs) e ys h k =
    let later : suc e.tick ≤ x.tick = h.0 in
    ap (put_by_tick tick x) (sort-front xs e ys h.1 k) ∙ put-behind x e (in_order tick (xs ++ ys)) (omega arith)

-- ---- events of a track do not come before its tick

from-if : (t : ℕ) (m : Option (List ℕ)) → From t (event_if t m)
from-if t None = tt
from-if t (Some message) = (omega arith, tt)

pub from-events : (ps : List Pair) (t : ℕ) → From t (events_from t ps)
from-events [] t = tt
from-events (p ∷ ps) t = from-append t (event_if (t + p.delta) (message_of p.event)) (events_from (t + p.delta) ps)
    (below-less tick t (t + p.delta) (event_if (t + p.delta) (message_of p.event)) (omega arith) (from-if (t + p.delta) (message_of p.event)))
    (below-less tick t (t + p.delta) (events_from (t + p.delta) ps) (omega arith) (from-events ps (t + p.delta)))

-- ---- the tracks of heads

abbrev pub comes : List (List ℕ) → TrackHead → List Event
comes contents h = to_come (content_of contents h) h

abbrev track : TrackHead → ℕ
track h = h.track

from-head : (t : ℕ) (contents : List (List ℕ)) (h : TrackHead) → t ≤ h.tick → From t (comes contents h)
from-head t contents h le =
    let left : List ℕ = left_of (content_of contents h) h in
    below-less tick t h.tick (comes contents h) le
    (from-append h.tick (event_if h.tick (message_of (event_in h left))) (events_from h.tick (rest_of (running_in h left) (left_in h left)))
    (from-if h.tick (message_of (event_in h left))) (from-events (rest_of (running_in h left) (left_in h left)) h.tick))

flat-append : (contents : List (List ℕ)) (xs ys : List TrackHead) → flat_map (comes contents) (xs ++ ys) ≡ flat_map (comes contents) xs ++ flat_map (comes contents) ys
flat-append contents [] ys = refl
flat-append contents (x ∷ xs) ys = ap (λ (es : List Event). comes contents x ++ es) (flat-append contents xs ys) ∙ sym (append_assoc (comes contents x) (flat_map (comes contents) xs) (flat_map (comes contents) ys))

-- ---- what the top of the heap says

then-not-less : (a b : TrackHead) → is_later a b ≡ false → (a.tick ≤ b.tick) × (b.tick ≡ a.tick → a.track ≤ b.track)
then-not-less a b e =
    go (nat_lt b.tick a.tick) (b.tick == a.tick) (nat_lt b.track a.track) (leb_tells (suc b.tick) a.tick) (eqb_tells b.tick a.tick) (leb_tells (suc b.track) a.track) e
  where
    go : (s t u : Bool) → ((s ≡ true) × (suc b.tick ≤ a.tick)) ⊎ ((s ≡ false) × (a.tick < suc b.tick)) → ((t ≡ true) × (b.tick ≡ a.tick)) ⊎ ((t ≡ false) × (b.tick ≢ a.tick)) → ((u ≡ true) × (suc b.track ≤ a.track)) ⊎ ((u ≡ false) × (a.track < suc b.track)) → (s || (t && u)) ≡ false → (a.tick ≤ b.tick) × (b.tick ≡ a.tick → a.track ≤ b.track)
    go true t u x y z e = let bad : true ≡ false = e in let none : ⊥ = cc in absurd none
    go false t u (inl x) y z e = let bad : false ≡ true = x.0 in let none : ⊥ = cc in absurd none
    go false false u (inr x) (inl y) z e = let bad : false ≡ true = y.0 in let none : ⊥ = cc in absurd none
    go false false u (inr x) (inr y) z e = (let c : a.tick < suc b.tick = x.1 in omega arith, λ same. absurd (y.1 same))
    go false true true x y z e = let bad : true ≡ false = e in let none : ⊥ = cc in absurd none
    go false true false (inr x) y (inl z) e = let bad : false ≡ true = z.0 in let none : ⊥ = cc in absurd none
    go false true false (inr x) y (inr z) e = (let c : a.tick < suc b.tick = x.1 in omega arith, λ _. (let d : a.track < suc b.track = z.1 in omega arith))

abbrev Tops : TrackHead → List TrackHead → Type 0
Tops top hs = AllByRecursion (λ y. is_later top y ≡ false) hs

tops-parts : (top : TrackHead) (xs ys : List TrackHead) → Tops top (xs ++ ys) → Tops top xs × Tops top ys
tops-parts top [] ys h = (tt, h)
tops-parts top (x ∷ xs) ys h = let more : Tops top xs × Tops top ys = tops-parts top xs ys h.1 in ((h.0, more.0), more.1)

-- the tracks before the one of the top have their next message later
earlier-tracks : (contents : List (List ℕ)) (top : TrackHead) (hs : List TrackHead) → Tops top hs → AllByRecursion (λ y. y.track < top.track) hs → From (suc top.tick) (flat_map (comes contents) hs)
earlier-tracks contents top [] h k = tt
earlier-tracks contents top (y ∷ hs) h k =
    let both : (top.tick ≤ y.tick) × (y.tick ≡ top.tick → top.track ≤ y.track) = then-not-less top y h.0 in
    let late : top.tick ≤ y.tick = both.0 in
    let before : y.track < top.track = k.0 in
    let apart : y.tick ≡ top.tick → ⊥ = λ same. (let after : top.track ≤ y.track = both.1 same in omega arith) in
    from-append (suc top.tick) (comes contents y) (flat_map (comes contents) hs)
    (from-head (suc top.tick) contents y (omega (arith, apart))) (earlier-tracks contents top hs h.1 k.1)

-- those after it not before it
later-tracks : (contents : List (List ℕ)) (top : TrackHead) (hs : List TrackHead) → Tops top hs → From top.tick (flat_map (comes contents) hs)
later-tracks contents top [] h = tt
later-tracks contents top (y ∷ hs) h =
    from-append top.tick (comes contents y) (flat_map (comes contents) hs)
    (from-head top.tick contents y (then-not-less top y h.0).0) (later-tracks contents top hs h.1)

-- ---- a head among those of the other tracks, by track

record Split (h : TrackHead) (hs : List TrackHead) : Type 0 where
  before : List TrackHead
  after : List TrackHead
  put : (g : TrackHead) → g.track ≡ h.track → put_by_tick track g hs ≡ before ++ g ∷ after
  whole : hs ≡ before ++ after
  low : AllByRecursion (λ y. y.track < h.track) before

put-first : (g y : TrackHead) (hs : List TrackHead) → g.track ≤ y.track → put_by_tick track g (y ∷ hs) ≡ g ∷ y ∷ hs
put-first g y hs le = ap (λ (t : Bool). if t then (g ∷ y ∷ hs) else (y ∷ put_by_tick track g hs)) (le-leb g.track y.track le)

put-later : (g y : TrackHead) (hs : List TrackHead) → y.track < g.track → put_by_tick track g (y ∷ hs) ≡ y ∷ put_by_tick track g hs
put-later g y hs less = let no : nat_le g.track y.track ≡ false = grind (arith, nat_tests) in ap (λ (t : Bool). if t then (g ∷ y ∷ hs) else (y ∷ put_by_tick track g hs)) no

split : (h : TrackHead) (hs : List TrackHead) → Split h hs
split h [] = record { before = []; after = []; put = λ g e. refl; whole = refl; low = tt }
split h (y ∷ hs) =
    go (leb_tells h.track y.track) (split h hs)
  where
    go : {b : Bool} → ((b ≡ true) × (h.track ≤ y.track)) ⊎ ((b ≡ false) × (y.track < h.track)) → Split h hs → Split h (y ∷ hs)
    go (inl le) s = record {
      before = [];
      after = y ∷ hs;
      put = λ g e. (let not_later : h.track ≤ y.track = le.1 in put-first g y hs (omega arith));
      whole = refl;
      low = tt;
    }
    go (inr lt) s = record {
      before = y ∷ s.before;
      after = s.after;
      put = λ g e. (let less : y.track < h.track = lt.1 in put-later g y hs (omega arith) ∙ ap (λ (ys : List TrackHead). y ∷ ys) (s.put g e));
      whole = ap (λ (ys : List TrackHead). y ∷ ys) s.whole;
      low = (lt.1, s.low);
    }

-- what comes of a track, among what comes of those before and after it
record Around (contents : List (List ℕ)) (top : TrackHead) (hs : List TrackHead) : Type 0 where
  before : List Event
  after : List Event
  low : From (suc top.tick) before
  high : From top.tick after
  among : (g : TrackHead) → g.track ≡ top.track → flat_map (comes contents) (put_by_tick track g hs) ≡ before ++ (comes contents g ++ after)
  alone : flat_map (comes contents) hs ≡ before ++ after

around : (contents : List (List ℕ)) (top : TrackHead) (hs : List TrackHead) → Tops top hs → Around contents top hs
around contents top hs tops =
    let s : Split top hs = split top hs in
    let parts : Tops top s.before × Tops top s.after = tops-parts top s.before s.after (subst (λ (ys : List TrackHead). Tops top ys) s.whole tops) in
    record {
      before = flat_map (comes contents) s.before;
      after = flat_map (comes contents) s.after;
      low = earlier-tracks contents top s.before parts.0 s.low;
      high = later-tracks contents top s.after parts.1;
      among = λ g e. ap (flat_map (comes contents)) (s.put g e) ∙ flat-append contents s.before (g ∷ s.after);
      alone = ap (flat_map (comes contents)) s.whole ∙ flat-append contents s.before s.after;
    }

-- ---- the next event

nothing-behind : (es : List Event) → es ++ [] ≡ es
nothing-behind [] = refl
nothing-behind (e ∷ es) = ap (λ (xs : List Event). e ∷ xs) (nothing-behind es)

-- the head that its track has next: what comes of it is what comes after the message of the top
pub record Follows (contents : List (List ℕ)) (top : TrackHead) (next : Option TrackHead) : Type 0 where
  pub tracks : IfSome next (λ h. h.track ≡ top.track)
  pub heads : IfSome next (IsHead contents)
  pub come : to_come_if (content_of contents top) next ≡ events_from top.tick (rest_of (running_in top (left_of (content_of contents top) top)) (left_in top (left_of (content_of contents top) top)))

-- the next head among the rest, by track
next-among : (contents : List (List ℕ)) (top : TrackHead) (rest : List TrackHead) (next : Option TrackHead) (a : Around contents top (in_order track rest)) → IfSome next (λ h. h.track ≡ top.track) →
    flat_map (comes contents) (in_order track (option_to_list next ++ rest)) ≡ a.before ++ (to_come_if (content_of contents top) next ++ a.after)
next-among contents top rest None a e = a.alone
next-among contents top rest (Some h) a e =
    a.among h e ∙ ap (λ (i : ℕ). a.before ++ (to_come (get_or contents i []) h ++ a.after)) e

-- the event of the top comes first, and then what comes with the next head of its track
next-event : (contents : List (List ℕ)) (top : TrackHead) (rest : List TrackHead) (next : Option TrackHead) (message : List ℕ) → Tops top (in_order track rest) → Follows contents top next →
    message_of (event_in top (left_of (content_of contents top) top)) ≡ Some message →
    still_to_come contents (top ∷ rest) ≡ record { tick = top.tick; message = message } ∷ still_to_come contents (option_to_list next ++ rest)
next-event contents top rest next message tops f e =
    let a : Around contents top (in_order track rest) = around contents top (in_order track rest) tops in
    let left : List ℕ = left_of (content_of contents top) top in
    let es : List Event = events_from top.tick (rest_of (running_in top left) (left_in top left)) in
    let come : comes contents top ≡ record { tick = top.tick; message = message } ∷ es = ap (λ (m : Option (List ℕ)). event_if top.tick m ++ es) e in
    ap (in_order tick) (a.among top refl)
    ∙ ap (λ (xs : List Event). in_order tick (a.before ++ (xs ++ a.after))) come
    ∙ sort-front a.before (record { tick = top.tick; message = message }) (es ++ a.after) a.low
    (from-append top.tick es a.after (from-events (rest_of (running_in top left) (left_in top left)) top.tick) a.high)
    ∙ ap (λ (xs : List Event). record { tick = top.tick; message = message } ∷ in_order tick (a.before ++ (xs ++ a.after))) (sym f.come)
    ∙ ap (λ (xs : List Event). record { tick = top.tick; message = message } ∷ in_order tick xs) (sym (next-among contents top rest next a f.tracks))

-- ---- all that the code needs of the top

by-recursion : {X : Type 0} (P : X → Type 0) (xs : List X) → All P xs → AllByRecursion P xs
by-recursion P [] h = tt
by-recursion P (x ∷ xs) h = (All-head P x xs h, by-recursion P xs (All-tail P x xs h))

put-tops : (top h : TrackHead) (hs : List TrackHead) → is_later top h ≡ false → Tops top hs → Tops top (put_by_tick track h hs)
put-tops top h [] a b = (a, tt)
put-tops top h (y ∷ hs) a b =
    go (nat_le h.track y.track) (put-tops top h hs a b.1)
  where
    go : (t : Bool) → Tops top (put_by_tick track h hs) → Tops top (if t then (h ∷ y ∷ hs) else (y ∷ put_by_tick track h hs))
    go true again = (a, b)
    go false again = (b.0, again)

order-tops : (top : TrackHead) (hs : List TrackHead) → Tops top hs → Tops top (in_order track hs)
order-tops top [] h = tt
order-tops top (y ∷ hs) h = put-tops top y (in_order track hs) h.0 (order-tops top hs h.1)

-- the code reads the top of the heap
pub record Top (contents : List (List ℕ)) (heads : List TrackHead) (top : TrackHead) : Type 0 where
  pub rest : List TrackHead
  pub are : heads ≡ top ∷ rest
  pub tops : Tops top (in_order track rest)
  pub head : IsHead contents top
  pub heads_are : All (IsHead contents) rest
  pub apart : AreApart (top ∷ rest)

pub top-here : (contents : List (List ℕ)) (heads : List TrackHead) (top : TrackHead) → IsPlaying contents heads → Some top ≡ slice_get heads 0 → Top contents heads top
top-here contents [] top p e = let bad : ⊥ = cc in absurd bad
top-here contents (h ∷ rest) top p e =
    let same : h ≡ top = cc in
    let all : Tops h (h ∷ rest) = top-not-later (h ∷ rest) h p.order refl in
    subst (λ (t : TrackHead). Top contents (h ∷ rest) t) same (record {
      rest = rest;
      are = refl;
      tops = order-tops h rest all.1;
      head = All-head (IsHead contents) h rest p.heads_are;
      heads_are = All-tail (IsHead contents) h rest p.heads_are;
      apart = p.apart;
    })

pub some-message : {contents : List (List ℕ)} (top : TrackHead) → IsHead contents top → (message : List ℕ) × (message_of (event_in top (left_of (content_of contents top) top)) ≡ Some message)
some-message {contents} top h =
    go (message_of (event_in top (left_of (content_of contents top) top))) refl h.place.next.some
  where
    go : (m : Option (List ℕ)) → message_of (event_in top (left_of (content_of contents top) top)) ≡ m → IsTrue (is_some m) → (message : List ℕ) × (message_of (event_in top (left_of (content_of contents top) top)) ≡ Some message)
    go None is h = let bad : ⊥ = (let e : false ≡ true = h in cc) in absurd bad
    go (Some message) is h = (message, is)

-- its event is the first of all
first-event : (contents : List (List ℕ)) (heads : List TrackHead) (top : TrackHead) (t : Top contents heads top) (message : List ℕ) → message_of (event_in top (left_of (content_of contents top) top)) ≡ Some message →
    (es : List Event) × (still_to_come contents heads ≡ record { tick = top.tick; message = message } ∷ es)
first-event contents heads top t message e =
    let a : Around contents top (in_order track t.rest) = around contents top (in_order track t.rest) t.tops in
    let left : List ℕ = left_of (content_of contents top) top in
    let es : List Event = events_from top.tick (rest_of (running_in top left) (left_in top left)) in
    let come : comes contents top ≡ record { tick = top.tick; message = message } ∷ es = ap (λ (m : Option (List ℕ)). event_if top.tick m ++ es) e in (
      in_order tick (a.before ++ (es ++ a.after)),
      ap (still_to_come contents) t.are
          ∙ ap (in_order tick) (a.among top refl)
          ∙ ap (λ (xs : List Event). in_order tick (a.before ++ (xs ++ a.after))) come
          ∙ sort-front a.before (record { tick = top.tick; message = message }) (es ++ a.after) a.low
          (from-append top.tick es a.after (from-events (rest_of (running_in top left) (left_in top left)) top.tick) a.high),
    )

pub tick-here : (contents : List (List ℕ)) (heads : List TrackHead) (top : TrackHead) → IsPlaying contents heads → Some top ≡ slice_get heads 0 → Some top.tick ≡ option_map (λ (e : Event). e.tick) (slice_get (still_to_come contents heads) 0)
tick-here contents heads top p e =
    let t : Top contents heads top = top-here contents heads top p e in
    let m : (message : List ℕ) × (message_of (event_in top (left_of (content_of contents top) top)) ≡ Some message) = some-message {contents = contents} top t.head in
    let w : (es : List Event) × (still_to_come contents heads ≡ record { tick = top.tick; message = m.0 } ∷ es) = first-event contents heads top t m.0 m.1 in
    ap (λ (es : List Event). option_map (λ (e : Event). e.tick) (slice_get es 0)) (sym w.1)

pub over-here : (contents : List (List ℕ)) (heads : List TrackHead) → None ≡ slice_get heads 0 → still_to_come contents heads ≡ []
over-here contents [] e = refl
over-here contents (h ∷ heads) e = let bad : ⊥ = cc in absurd bad

pub next-first : (contents : List (List ℕ)) (heads heads' : List TrackHead) (top : TrackHead) (next : Option TrackHead) (message : List ℕ) → Top contents heads top → Follows contents top next →
    IsPermutation (option_to_list next ++ drop 1 heads) heads' → message_of (event_in top (left_of (content_of contents top) top)) ≡ Some message →
    still_to_come contents heads ≡ record { tick = top.tick; message = message } ∷ still_to_come contents heads'
next-first contents heads heads' top next message t f moved e =
    let moved' : IsPermutation (option_to_list next ++ t.rest) heads' = subst (λ (hs : List TrackHead). IsPermutation (option_to_list next ++ drop 1 hs) heads') t.are moved in
    ap (still_to_come contents) t.are
    ∙ next-event contents top t.rest next message t.tops f e
    ∙ ap (λ (hs : List TrackHead). record { tick = top.tick; message = message } ∷ in_order tick (flat_map (comes contents) hs)) (sym (sorted-alike (option_to_list next ++ t.rest) heads' moved' (apart-next top next t.rest t.apart f.tracks)))

heads-next : (contents : List (List ℕ)) (next : Option TrackHead) (rest : List TrackHead) → IfSome next (IsHead contents) → All (IsHead contents) rest → All (IsHead contents) (option_to_list next ++ rest)
heads-next contents None rest h k = k
heads-next contents (Some w) rest h k = All-cons (IsHead contents) w rest h k

pub next-playing : (contents : List (List ℕ)) (heads heads' : List TrackHead) (top : TrackHead) (next : Option TrackHead) → Top contents heads top → Follows contents top next →
    IsPermutation (option_to_list next ++ drop 1 heads) heads' → IsHeapFrom 0 heads' → IsPlaying contents heads'
next-playing contents heads heads' top next t f moved heap =
    let moved' : IsPermutation (option_to_list next ++ t.rest) heads' = subst (λ (hs : List TrackHead). IsPermutation (option_to_list next ++ drop 1 hs) heads') t.are moved in
    record {
      heads_are = All-permutation (IsHead contents) (option_to_list next ++ t.rest) heads' moved' (heads-next contents next t.rest f.heads t.heads_are);
      apart = apart-moved (option_to_list next ++ t.rest) heads' moved' (apart-next top next t.rest t.apart f.tracks);
      order = heap;
    }

-- ---- what is found after the top is told of the whole content

event-rest : (h : TrackHead) (left : List ℕ) → IsTrue (is_some (message_of (event_in h left))) → IsRest (left_in h left) left
event-rest h left some =
    go (pair_at h.running left) refl some
  where
    go : (r : Result (Pair × List ℕ) PairFault) → pair_at h.running left ≡ r → IsTrue (is_some (message_of (first_event r))) → IsRest (after_first r) left
    go (Ok found) is h' = pair-rest h.running left found is
    go (Err fault) is h' = let bad : ⊥ = (let e : false ≡ true = h' in cc) in absurd bad

place-in : (left content : List ℕ) (h : TrackHead) → IsRest left content → IsPlaceIn left h → IsPlaceIn content h
place-in left content h r p =
    let short : length left ≤ length content = rest-shorter left content r in
    let within : h.left ≤ length left = p.within in
    record {
      within = omega arith;
      next = subst (λ (xs : List ℕ). IsAtMessage h xs) (rest-last left content h.left r p.within) p.next;
    }

pub follows : (contents : List (List ℕ)) (top : TrackHead) (left : List ℕ) (running : Option ℕ) (next : Option TrackHead) → IsHead contents top →
    left ≡ left_in top (left_of (content_of contents top) top) → running ≡ running_in top (left_of (content_of contents top) top) →
    to_come_if left next ≡ events_from top.tick (rest_of running left) → IfSome next (λ h. IsPlaceIn left h) → IfSome next (λ h. h.track ≡ top.track) → Follows contents top next
follows contents top left running next h is status come places tracks =
    go next come places tracks
  where
    content : List ℕ
    content = content_of contents top

    rest : IsRest left content
    rest = subst (λ (xs : List ℕ). IsRest xs content) (sym is) (rest-trans (left_in top (left_of content top)) (left_of content top) content (event-rest top (left_of content top) h.place.next.some) (rest-drop (length content - top.left) content))

    told : events_from top.tick (rest_of running left) ≡ events_from top.tick (rest_of (running_in top (left_of content top)) (left_in top (left_of content top)))
    told = ap (λ (o : Option ℕ). events_from top.tick (rest_of o left)) status ∙ ap (λ (xs : List ℕ). events_from top.tick (rest_of (running_in top (left_of content top)) xs)) is

    go : (n : Option TrackHead) → to_come_if left n ≡ events_from top.tick (rest_of running left) → IfSome n (λ h. IsPlaceIn left h) → IfSome n (λ h. h.track ≡ top.track) → Follows contents top n
    go None come places tracks = record { tracks = tt; heads = tt; come = come ∙ told }
    go (Some w) come place same =
        let whole : IsPlaceIn content w = place-in left content w rest place in
        let track_is : top.track ≡ w.track = sym same in
        let within : top.track < length contents = h.track in
        record {
          tracks = same;
          heads = record { track = omega arith; place = subst (λ (i : ℕ). IsPlaceIn (get_or contents i []) w) track_is whole };
          come = ap (events_at_head w) (sym (rest-last left content w.left rest place.within)) ∙ come ∙ told;
        }

exclusive-message : (e : TrackEvent) → IsExclusive e → IsTrue (is_some (message_of e)) → (bytes : List ℕ) × (message_of e ≡ Some (240 ∷ bytes))
exclusive-message (grammar.Voice status payload) x h = absurd x
exclusive-message (grammar.Escape bytes) x h = absurd x
exclusive-message (grammar.Meta kind bytes) x h = absurd x
exclusive-message (grammar.Exclusive bytes) x h =
    go (is_message (240 ∷ bytes)) refl h
  where
    go : (t : Bool) → is_message (240 ∷ bytes) ≡ t → IsTrue (is_some (if t then Some (240 ∷ bytes) else None)) → (bs : List ℕ) × ((if is_message (240 ∷ bytes) then Some (240 ∷ bytes) else None) ≡ Some (240 ∷ bs))
    go true is h = (bytes, ap (λ (t : Bool). if t then Some (240 ∷ bytes) else None) is)
    go false is h = let bad : false ≡ true = h in let none : ⊥ = cc in absurd none

pub next-exclusive : (contents : List (List ℕ)) (heads : List TrackHead) (top : TrackHead) → Top contents heads top → IsExclusive (event_in top (left_of (content_of contents top) top)) → IsNextExclusive (still_to_come contents heads)
next-exclusive contents heads top t x =
    let m : (bytes : List ℕ) × (message_of (event_in top (left_of (content_of contents top) top)) ≡ Some (240 ∷ bytes)) = exclusive-message (event_in top (left_of (content_of contents top) top)) x t.head.place.next.some in
    let w : (es : List Event) × (still_to_come contents heads ≡ record { tick = top.tick; message = 240 ∷ m.0 } ∷ es) = first-event contents heads top t (240 ∷ m.0) m.1 in
    subst (λ (es : List Event). IsNextExclusive es) (sym w.1) kind-F0

-- ---- by what the code reads

pub now-at : (xs : List (Bor (List ℕ))) (i : ℕ) (d : Bor (List ℕ)) → i < length xs → (get_or xs i d).now ≡ get_or (nows xs) i []
now-at [] i d h = absurd (omega arith)
now-at (x ∷ xs) zero d h = refl
now-at (x ∷ xs) (suc i) d h = now-at xs i d (omega arith)

-- the top, and the content of its track
pub record Here (xs : List (Bor (List ℕ))) (heads : List TrackHead) (top : TrackHead) (v : Bor (List ℕ)) : Type 0 where
  pub top_is : Top (nows xs) heads top
  pub content : v.now ≡ content_of (nows xs) top
  pub place : IsPlaceIn v.now top

pub track-here : (xs : List (Bor (List ℕ))) (heads : List TrackHead) (top : TrackHead) → IsPlaying (nows xs) heads → Some top ≡ slice_get heads 0 → top.track < length xs
track-here xs heads top p e =
    let t : Top (nows xs) heads top = top-here (nows xs) heads top p e in
    let within : top.track < length (nows xs) = t.head.track in
    omega (arith, count-now xs)

pub here : (xs ys : List (Bor (List ℕ))) (heads : List TrackHead) (top : TrackHead) (v : Bor (List ℕ)) → IsPlaying (nows xs) heads → Some top ≡ slice_get heads 0 → ys ≡ xs → v ≡ get_or ys top.track v → Here xs heads top v
here xs ys heads top v p e same is =
    let t : Top (nows xs) heads top = top-here (nows xs) heads top p e in
    let content : v.now ≡ content_of (nows xs) top = ap (λ (b : Bor (List ℕ)). b.now) is ∙ ap (λ (zs : List (Bor (List ℕ))). (get_or zs top.track v).now) same ∙ now-at xs top.track v (track-here xs heads top p e) in
    record {
      top_is = t;
      content = content;
      place = subst (λ (ys : List ℕ). IsPlaceIn ys top) (sym content) t.head.place;
    }

-- what the code finds after the top, told of what it read of the top
pub follows-here : (xs : List (Bor (List ℕ))) (heads : List TrackHead) (top : TrackHead) (v : Bor (List ℕ)) (left : List ℕ) (running : Option ℕ) (next : Option TrackHead) → Here xs heads top v →
    left ≡ left_in top (left_of v.now top) → running ≡ running_in top (left_of v.now top) →
    to_come_if left next ≡ events_from top.tick (rest_of running left) → IfSome next (λ h. IsPlaceIn left h) → IfSome next (λ h. h.track ≡ top.track) → Follows (nows xs) top next
follows-here xs heads top v left running next w is status =
    follows (nows xs) top left running next w.top_is.head (is ∙ ap (λ (ys : List ℕ). left_in top (left_of ys top)) w.content) (status ∙ ap (λ (ys : List ℕ). running_in top (left_of ys top)) w.content)
