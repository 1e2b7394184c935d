-- Representation: What a cursor still has to give.
use Rattle.std.specs.Prelude.{◌≡◌, ◌≤◌, ◌<◌, ℕ, suc, ◌+◌, ◌-◌, ◌*◌, Bool, false, List, [], ◌∷◌, ◌++◌, length, map, drop, Option, Some, None, Result, Ok, Err, is_ok, is_some, nat_lt, ◌==◌, ◌&&◌, ◌||◌, IsTrue, count_by, slice_index_or, All}
use Rattle.std.specs.List.{flat_map}
use Rattle.midi_wire.specs.Kinds.{kind_of}
use Rattle.midi_wire.specs.declared.kind.Kind.TheVariants as Kind
use Rattle.smf_grammar.specs.declared.event.Event.{Event}
use Rattle.smf_grammar.specs.declared.fault.PairFault.{PairFault}
use Rattle.smf_grammar.specs.Pairs.{TrackEvent, Pair, running_after, pair_at}
use Rattle.smf_grammar.specs.Pairs as grammar
use Rattle.smf_grammar.specs.Contents.{in_order, message_of, event_if, events_from}
use Rattle.smf_grammar.specs.Reading.{pairs_from}
use Rattle.smf_grammar.specs.Seen.{is_event_sound, IsRunning}
use Rattle.smf_files.specs.Kept.{pairs_or_none, pairs_seen}
use Rattle.smf_files.specs.declared.heads.TrackHead.{TrackHead}

-- the pairs of a track from here on, where so much is left of its content
unfoldable pub rest_of : Option ℕ → List ℕ → List Pair
rest_of running left = pairs_or_none (pairs_from (suc (length left)) running left)

-- the track ends from here on, and no fault stands before its end
unfoldable pub is_whole : Option ℕ → List ℕ → Bool
is_whole running left = is_ok (pairs_from (suc (length left)) running left)

-- ---- where a track stands

-- the event of the pair that stands first, and what is left after it
abbrev pub first_event : Result (Pair × List ℕ) PairFault → TrackEvent
first_event (Ok found) = found.0.event
first_event (Err fault) = grammar.Escape []

abbrev pub after_first : Result (Pair × List ℕ) PairFault → List ℕ
after_first (Ok found) = found.1
after_first (Err fault) = []

-- the next message of a track, of which so much is left from that message on
abbrev pub event_in : TrackHead → List ℕ → TrackEvent
event_in h left = first_event (pair_at h.running left)

-- the running status after it
abbrev pub running_in : TrackHead → List ℕ → Option ℕ
running_in h left = running_after (event_in h left)

-- what is left after it
abbrev pub left_in : TrackHead → List ℕ → List ℕ
left_in h left = after_first (pair_at h.running left)

-- the next message, and the events of the pairs after it
abbrev pub events_at_head : TrackHead → List ℕ → List Event
events_at_head h left =
    event_if h.tick (message_of (event_in h left))
    ++ events_from h.tick (rest_of (running_in h left) (left_in h left))

-- what is left of the content of a track from its next message on
abbrev pub left_of : List ℕ → TrackHead → List ℕ
left_of content h = drop (length content - h.left) content

-- the events of a track with this content that are still to come; none where it is over
abbrev pub to_come : List ℕ → TrackHead → List Event
to_come content h = events_at_head h (left_of content h)

abbrev pub to_come_if : List ℕ → Option TrackHead → List Event
to_come_if content None = []
to_come_if content (Some h) = to_come content h

-- the content of the track of a head
abbrev pub content_of : List (List ℕ) → TrackHead → List ℕ
content_of contents h = slice_index_or contents h.track []

-- the events of all tracks that have a head, by tick, at one tick by track
abbrev pub still_to_come : List (List ℕ) → List TrackHead → List Event
still_to_come contents heads =
    in_order (λ e. e.tick)
    (flat_map (λ h. to_come (content_of contents h) h) (in_order (λ h. h.track) heads))

-- all events of tracks with these contents, in order
abbrev pub all_events : List (List ℕ) → List Event
all_events contents = in_order (λ e. e.tick) (flat_map (events_from 0) (map pairs_seen contents))

-- more than the greatest delta time: each pair has a byte of its own at least
abbrev pub most_delta_a_byte : ℕ
most_delta_a_byte = 268435456

-- more than the last tick of the longest track
abbrev pub most_tick : ℕ
most_tick = 4503599627370496

-- a message stands first in what is left, no fault stands before the end of the track, and its
-- ticks stay small
pub record IsAtMessage (h : TrackHead) (left : List ℕ) : Type 0 where
  pub some : IsTrue (is_some (message_of (event_in h left)))
  pub sound : IsTrue (is_event_sound (event_in h left))
  pub status : IsRunning h.running
  pub whole : IsTrue (is_whole (running_in h left) (left_in h left))
  pub early : h.tick + length (left_in h left) * most_delta_a_byte ≤ most_tick

-- a delta time of one byte stands first, and what follows it begins no exclusive, escape or meta
-- event
pub record IsShortDelta (delta : ℕ) (left : List ℕ) : Type 0 where
  pub long : 1 < length left
  pub first : slice_index_or left 0 0 ≡ delta
  pub low : delta < 128
  pub voice : slice_index_or left 1 0 < 240

-- the place of a head is one of a message in this content
pub record IsPlaceIn (content : List ℕ) (h : TrackHead) : Type 0 where
  pub within : h.left ≤ length content
  pub next : IsAtMessage h (left_of content h)

-- and that content is the one of its track
pub record IsHead (contents : List (List ℕ)) (h : TrackHead) : Type 0 where
  pub track : h.track < length contents
  pub place : IsPlaceIn (content_of contents h) h

-- F0 and its bytes
abbrev pub IsExclusive : TrackEvent → Type 0
IsExclusive (grammar.Voice status payload) = ⊥
IsExclusive (grammar.Exclusive bytes) = Unit {0}
IsExclusive (grammar.Escape bytes) = ⊥
IsExclusive (grammar.Meta kind bytes) = ⊥

-- a later tick, or the same one of a later track
abbrev pub is_later : TrackHead → TrackHead → Bool
is_later a b = nat_lt b.tick a.tick || ((b.tick == a.tick) && nat_lt b.track a.track)

-- no head from a place on comes later than one of its children: the heap has the earliest on top
abbrev pub IsHeapFrom : ℕ → List TrackHead → Type 0
IsHeapFrom low hs =
    (i k : ℕ) (d : TrackHead) → low ≤ i → i * 2 + 1 ≤ k → k ≤ i * 2 + 2 → k < length hs
    → is_later (slice_index_or hs i d) (slice_index_or hs k d) ≡ false

-- no child of a head comes before the one at this place
abbrev pub IsFirstChild : List TrackHead → ℕ → ℕ → Type 0
IsFirstChild hs at child =
    (k : ℕ) (d : TrackHead) → at * 2 + 1 ≤ k → k ≤ at * 2 + 2 → k < length hs
    → is_later (slice_index_or hs child d) (slice_index_or hs k d) ≡ false

-- no two heads are of one track
abbrev pub AreApart : List TrackHead → Type 0
AreApart heads = (track : ℕ) → count_by (λ h. h.track == track) heads ≤ 1

-- the heads are a heap of places in the contents of their tracks
pub record IsPlaying (contents : List (List ℕ)) (heads : List TrackHead) : Type 0 where
  pub heads_are : All (IsHead contents) heads
  pub apart : AreApart heads
  pub order : IsHeapFrom 0 heads

-- the next event is an exclusive message
abbrev pub IsNextExclusive : List Event → Type 0
IsNextExclusive [] = ⊥
IsNextExclusive (e ∷ events) = kind_of e.message ≡ Kind.Exclusive
