-- Definition: What a file says: its events, its tempo entries, and how many events are skipped
-- (Standard MIDI Files 1.0).
use Rattle.std.specs.Prelude.{ℕ, ◌+◌, Bool, true, false, not, List, [], ◌∷◌, ◌++◌, length, Option, Some, None, is_some, nat_le, ◌==◌, ◌&&◌, if◌then◌else◌}
use Rattle.std.specs.List.{flat_map}
use Rattle.byteorder.specs.Endian.{big_number}
use Rattle.midi_wire.specs.Messages.{is_message}
use Rattle.tempo_clock.specs.declared.entry.TempoEntry.{TempoEntry}
use Rattle.smf_grammar.specs.declared.event.Event.{Event}
use Rattle.smf_grammar.specs.Pairs.{TrackEvent, Voice, Exclusive, Escape, Meta, Pair}
use Rattle.smf_grammar.specs.Chunks.{is_frame_division}
use Rattle.smf_grammar.specs.Files.{MidiFile}

-- ---- in order

-- puts an item before the first that does not come before it
abbrev pub put_by_tick : {A : Type 0} → (A → ℕ) → A → List A → List A
put_by_tick tick x [] = x ∷ []
put_by_tick tick x (y ∷ ys) =
    if nat_le (tick x) (tick y) then (x ∷ y ∷ ys) else (y ∷ put_by_tick tick x ys)

-- by tick; items at one tick stay in their order
abbrev pub in_order : {A : Type 0} → (A → ℕ) → List A → List A
in_order tick [] = []
in_order tick (x ∷ xs) = put_by_tick tick x (in_order tick xs)

-- ---- events

-- the message of an event: that of a channel, or an exclusive one where F0 and its bytes are a
-- whole message
abbrev pub message_of : TrackEvent → Option (List ℕ)
message_of (Voice status payload) = Some (status ∷ payload)
message_of (Exclusive bytes) = if is_message (240 ∷ bytes) then Some (240 ∷ bytes) else None
message_of (Escape bytes) = None
message_of (Meta kind bytes) = None

-- a message at its tick, where there is one
abbrev pub event_if : ℕ → Option (List ℕ) → List Event
event_if tick None = []
event_if tick (Some message) = record { tick = tick; message = message } ∷ []

-- the messages of the pairs of a track, each at the sum of the delta times up to it; so many ticks
-- passed before
abbrev pub events_from : ℕ → List Pair → List Event
events_from tick [] = []
events_from tick (p ∷ ps) =
    event_if (tick + p.delta) (message_of p.event) ++ events_from (tick + p.delta) ps

-- the events of a file: by tick, at one tick by track, and within a track in its order
abbrev pub events_of : MidiFile → List Event
events_of f = in_order (λ e. e.tick) (flat_map (events_from 0) f.tracks)

-- ---- tempo

-- FF 51
abbrev pub is_tempo_event : TrackEvent → Bool
is_tempo_event (Voice status payload) = false
is_tempo_event (Exclusive bytes) = false
is_tempo_event (Escape bytes) = false
is_tempo_event (Meta kind bytes) = kind == 81

-- microseconds per quarter note: three bytes that are not all 0
abbrev pub tempo_in : List ℕ → Option ℕ
tempo_in bytes =
    if (length bytes == 3) && not (big_number 3 bytes == 0) then Some (big_number 3 bytes) else None

abbrev pub tempo_of : TrackEvent → Option ℕ
tempo_of (Voice status payload) = None
tempo_of (Exclusive bytes) = None
tempo_of (Escape bytes) = None
tempo_of (Meta kind bytes) = if kind == 81 then tempo_in bytes else None

abbrev pub entry_if : ℕ → Option ℕ → List TempoEntry
entry_if tick None = []
entry_if tick (Some tempo) = record { tick = tick; tempo = tempo } ∷ []

-- the tempos that the pairs of a track set, each at its tick
abbrev pub tempos_from : ℕ → List Pair → List TempoEntry
tempos_from tick [] = []
tempos_from tick (p ∷ ps) =
    entry_if (tick + p.delta) (tempo_of p.event) ++ tempos_from (tick + p.delta) ps

-- of several at one tick the last
abbrev pub last_at_each : List TempoEntry → List TempoEntry
last_at_each [] = []
last_at_each (e ∷ []) = e ∷ []
last_at_each (e ∷ f ∷ more) =
    if e.tick == f.tick then last_at_each (f ∷ more) else (e ∷ last_at_each (f ∷ more))

-- half a second per quarter note, from the start
abbrev pub default_entry : TempoEntry
default_entry = record { tick = 0; tempo = 500000 }

-- the tempo entries of a file: none where its division counts frames; else the default tempo at the
-- start, and those that its tracks set, in the same order as events; of several at one tick the
-- last holds
abbrev pub entries_of : MidiFile → List TempoEntry
entries_of f =
    if is_frame_division f.division then []
    else last_at_each (default_entry ∷ in_order (λ e. e.tick) (flat_map (tempos_from 0) f.tracks))

-- ---- what is skipped

-- F0 events that are no whole message, F7 events, and, where tempo counts, FF 51 events that set
-- none
abbrev pub is_skipped : Bool → TrackEvent → Bool
is_skipped metrical (Voice status payload) = false
is_skipped metrical (Exclusive bytes) = not (is_message (240 ∷ bytes))
is_skipped metrical (Escape bytes) = true
is_skipped metrical (Meta kind bytes) = metrical && ((kind == 81) && not (is_some (tempo_in bytes)))

abbrev pub skipped_in : Bool → List Pair → ℕ
skipped_in metrical [] = 0
skipped_in metrical (p ∷ ps) =
    (if is_skipped metrical p.event then 1 else 0) + skipped_in metrical ps

abbrev pub skipped_in_all : Bool → List (List Pair) → ℕ
skipped_in_all metrical [] = 0
skipped_in_all metrical (ps ∷ tracks) = skipped_in metrical ps + skipped_in_all metrical tracks

-- how many events of a file are skipped and counted
abbrev pub skipped_of : MidiFile → ℕ
skipped_of f = skipped_in_all (not (is_frame_division f.division)) f.tracks
