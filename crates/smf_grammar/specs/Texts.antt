-- Definition: The text of a file with one track, as it is written.
use Rattle.std.specs.Prelude.{ℕ, suc, ◌+◌, ◌-◌, ◌/◌, ◌%◌, Bool, List, [], ◌∷◌, ◌++◌, length, Option, Some, None, nat_lt, nat_le, ◌==◌, ◌&&◌, if◌then◌else◌, codes}
use Rattle.std.specs.Option.{option_map}
use Rattle.byteorder.specs.Endian.{big_bytes}
use Rattle.midi_wire.specs.declared.status.StatusClass.{StatusClass}
use Rattle.midi_wire.specs.Messages.{begins}
use Rattle.midi_wire.specs.declared.status.StatusClass.TheVariants as wire
use Rattle.midi_wire.specs.Writings.{status_of}
use Rattle.smf_grammar.specs.declared.event.Event.{Event}

-- the shortest spelling of a quantity below 2 ^ 28
unfoldable pub shortest : ℕ → List ℕ
shortest n =
    if nat_lt n 128 then (n ∷ []) else
    (if nat_lt n 16384 then ((128 + n / 128) ∷ n % 128 ∷ []) else
    (if nat_lt n 2097152 then ((128 + n / 128 / 128) ∷ (128 + n / 128 % 128) ∷ n % 128 ∷ []) else
    ((128 + n / 128 / 128 / 128) ∷ (128 + n / 128 / 128 % 128) ∷ (128 + n / 128 % 128) ∷ n % 128
    ∷ [])))

-- a message in a track: an exclusive one with the length of what follows F0, any other whole, its
-- status never left out
abbrev pub message_text : List ℕ → List ℕ
message_text [] = []
message_text (status ∷ tail) =
    if status == 240 then (240 ∷ shortest (length tail) ++ tail) else (status ∷ tail)

-- events after one another, the first so long after a tick
abbrev pub events_text : ℕ → List Event → List ℕ
events_text before [] = []
events_text before (e ∷ events) =
    shortest (e.tick - before) ++ message_text e.message ++ events_text e.tick events

-- the tempo at the start, the events, and the end of the track
abbrev pub track_text : ℕ → List Event → List ℕ
track_text tempo events =
    (0 ∷ 255 ∷ 81 ∷ 3 ∷ []) ++ big_bytes 3 tempo ++ events_text 0 events ++ (0 ∷ 255 ∷ 47 ∷ 0 ∷ [])

-- a chunk: its type, its length and its content
abbrev pub chunk_text : List ℕ → List ℕ → List ℕ
chunk_text kind content = kind ++ big_bytes 4 (length content) ++ content

-- the text of a file of format 0
unfoldable pub file_text : ℕ → ℕ → List Event → List ℕ
file_text ppq tempo events =
    chunk_text (codes "MThd") (big_bytes 2 0 ++ big_bytes 2 1 ++ big_bytes 2 ppq)
    ++ chunk_text (codes "MTrk") (track_text tempo events)

-- the greatest delta time
abbrev pub most_delta : ℕ
most_delta = 268435455

-- a message of a channel or an exclusive one
abbrev pub stands_in_files : StatusClass → Bool
stands_in_files (wire.Channel width) = Bool.true
stands_in_files wire.Exclusive = Bool.true
stands_in_files _ = Bool.false

-- an event can be written after one at this tick
abbrev pub can_follow : ℕ → Event → Bool
can_follow before e =
    nat_le before e.tick && (nat_le (e.tick - before) most_delta
    && stands_in_files (begins (status_of e.message)))

-- the index of the first event that cannot be written, if there is one
abbrev pub bad_event : ℕ → List Event → Option ℕ
bad_event before [] = None
bad_event before (e ∷ events) =
    if can_follow before e then option_map suc (bad_event e.tick events) else Some 0
