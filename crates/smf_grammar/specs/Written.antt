-- Definition: The text of a file of any tracks, as it is written (Standard MIDI Files 1.0, "Header
-- Chunks" and "Track Chunks"), and which files can be written.
use Rattle.std.specs.Prelude.{ℕ, suc, Bool, true, false, List, [], ◌∷◌, ◌++◌, length, Option, Some, None, is_ok, nat_lt, nat_le, ◌==◌, ◌&&◌, if◌then◌else◌, codes}
use Rattle.std.specs.Option.{option_or}
use Rattle.byteorder.specs.Endian.{big_bytes}
use Rattle.smf_grammar.specs.Pairs.{TrackEvent, Voice, Exclusive, Escape, Meta, Pair, is_end, running_after}
use Rattle.smf_grammar.specs.Chunks.{most_bytes, is_track_count, header_of}
use Rattle.smf_grammar.specs.Files.{MidiFile}
use Rattle.smf_grammar.specs.Texts.{shortest, chunk_text, most_delta}
use Rattle.smf_grammar.specs.Seen.{is_event_sound}

-- ---- the text

-- this status is the running one
abbrev pub is_running : Option ℕ → ℕ → Bool
is_running None status = false
is_running (Some running) status = running == status

-- bytes behind how many they are
abbrev pub sized_text : List ℕ → List ℕ
sized_text bytes = shortest (length bytes) ++ bytes

-- an event where this is the running status: a message of a channel leaves out its status where it
-- is the running one
abbrev pub event_text : Option ℕ → TrackEvent → List ℕ
event_text running (Voice status payload) =
    if is_running running status then payload else (status ∷ payload)
event_text running (Exclusive bytes) = 240 ∷ sized_text bytes
event_text running (Escape bytes) = 247 ∷ sized_text bytes
event_text running (Meta kind bytes) = 255 ∷ kind ∷ sized_text bytes

-- a delta time and an event
abbrev pub pair_text : Option ℕ → Pair → List ℕ
pair_text running p = shortest p.delta ++ event_text running p.event

-- pairs one after another
abbrev pub pairs_text : Option ℕ → List Pair → List ℕ
pairs_text running [] = []
pairs_text running (p ∷ ps) = pair_text running p ++ pairs_text (running_after p.event) ps

-- a chunk for each track; no status is running at the start of any
abbrev pub tracks_text : List (List Pair) → List ℕ
tracks_text [] = []
tracks_text (ps ∷ tracks) = chunk_text (codes "MTrk") (pairs_text None ps) ++ tracks_text tracks

-- the header, by its three numbers
abbrev pub header_text : ℕ → ℕ → ℕ → List ℕ
header_text format tracks division =
    chunk_text (codes "MThd") (big_bytes 2 format ++ big_bytes 2 tracks ++ big_bytes 2 division)

-- the text of a file
unfoldable pub written_file : MidiFile → List ℕ
written_file f = header_text f.format (length f.tracks) f.division ++ tracks_text f.tracks

-- ---- which files can be written

-- why a file can't be written
pub data FileRefusal : Type 0 where
  -- another format than 0 and 1
  BadFormat : FileRefusal
  -- another number of tracks than one in format 0, than 1 to 65,535 in format 1
  BadTrackCount : FileRefusal
  -- a division that no header has
  BadDivision : FileRefusal
  -- of this track, this pair: a number too great, no message of a channel, or no bytes
  BadPair : ℕ → ℕ → FileRefusal
  -- of this track, this pair ends it, and others follow
  EarlyEnd : ℕ → ℕ → FileRefusal
  -- no pair ends this track
  NoEnd : ℕ → FileRefusal
  -- a text of more bytes than a file has at most
  TooLarge : FileRefusal

-- four bytes can spell it
abbrev pub is_quantity : ℕ → Bool
is_quantity n = nat_le n most_delta

-- each is a byte
abbrev pub all_bytes : List ℕ → Bool
all_bytes [] = true
all_bytes (b ∷ bytes) = nat_lt b 256 && all_bytes bytes

-- bytes that a quantity can count
abbrev pub are_bytes : List ℕ → Bool
are_bytes bytes = is_quantity (length bytes) && all_bytes bytes

-- what stands behind the status is bytes; of a message of a channel, this is said with it
abbrev pub has_bytes : TrackEvent → Bool
has_bytes (Voice status payload) = true
has_bytes (Exclusive bytes) = are_bytes bytes
has_bytes (Escape bytes) = are_bytes bytes
has_bytes (Meta kind bytes) = nat_lt kind 256 && are_bytes bytes

-- a pair that a track can have
abbrev pub can_stand : Pair → Bool
can_stand p = is_quantity p.delta && (is_event_sound p.event && has_bytes p.event)

-- nothing may follow the pair at this index of this track, since it ends the track
abbrev pub refused_after_end : ℕ → ℕ → List Pair → Option FileRefusal
refused_after_end track at [] = None
refused_after_end track at (p ∷ ps) = Some (EarlyEnd track at)

-- the first test that fails of the pairs of this track, from this index on
abbrev pub track_refusal : ℕ → ℕ → List Pair → Option FileRefusal
track_refusal track at [] = Some (NoEnd track)
track_refusal track at (p ∷ ps) =
    if can_stand p then
    (if is_end p.event then refused_after_end track at ps else track_refusal track (suc at) ps)
    else Some (BadPair track at)

-- the same of these tracks, the first of which has this index
abbrev pub tracks_refusal : ℕ → List (List Pair) → Option FileRefusal
tracks_refusal track [] = None
tracks_refusal track (ps ∷ tracks) =
    option_or (track_refusal track 0 ps) (tracks_refusal (suc track) tracks)

-- the same of the three numbers of a header
abbrev pub header_refusal : ℕ → ℕ → ℕ → Option FileRefusal
header_refusal format tracks division =
    if nat_le format 1 then
    (if is_track_count format tracks && nat_le tracks 65535 then
    (if is_ok (header_of format tracks division) then None else Some BadDivision)
    else Some BadTrackCount)
    else Some BadFormat

-- the same of how many bytes a text has
abbrev pub size_refusal : ℕ → Option FileRefusal
size_refusal size = if nat_le size most_bytes then None else Some TooLarge

-- why a file can't be written, by the first test that fails: those of the header, of the pairs of
-- one track after another, and of the size
abbrev pub file_refusal : MidiFile → Option FileRefusal
file_refusal f =
    option_or (header_refusal f.format (length f.tracks) f.division)
    (option_or (tracks_refusal 0 f.tracks) (size_refusal (length (written_file f))))
