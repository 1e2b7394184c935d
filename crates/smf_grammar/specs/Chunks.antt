-- Definition: The header of a file and its chunks (Standard MIDI Files 1.0, "Chunks" and "Header
-- Chunks").
--
-- As with pairs, each definition reads one item at the front of what is left, by the tests of the
-- format in their order.
use Rattle.std.specs.Prelude.{ℕ, ◌/◌, ◌%◌, Bool, true, false, not, List, [], ◌∷◌, length, take, drop, Result, Ok, nat_le, ◌==◌, ◌&&◌, ◌||◌, if◌then◌else◌, codes}
use Rattle.byteorder.specs.Endian.{big_number}
use Rattle.smf_grammar.specs.Outcomes.{◌>>=◌, fault_unless}
use Rattle.smf_grammar.specs.declared.fault.SmfFault.{SmfFault}
use Rattle.smf_grammar.specs.declared.fault.SmfFault.TheVariants.{NotMidi, ShortHeader, UnknownFormat, Format2, BadTrackCount, ZeroDivision, SmpteDivision, DropFrame, TooLarge}
use Rattle.smf_grammar.specs.declared.fault.ChunkFault.{ChunkFault}
use Rattle.smf_grammar.specs.declared.fault.ChunkFault.TheVariants.{Missing, Cut}

-- how many bytes a file has at most
abbrev pub most_bytes : ℕ
most_bytes = 16777216

-- these bytes stand first
abbrev pub starts : List ℕ → List ℕ → Bool
starts [] bytes = true
starts (x ∷ xs) [] = false
starts (x ∷ xs) (b ∷ bytes) = (b == x) && starts xs bytes

-- bit 15 is set: the upper byte is the negated frames per second, the lower the ticks of a frame
abbrev pub is_frame_division : ℕ → Bool
is_frame_division division = nat_le 32768 division

-- E8, E7 and E2 for 24, 25 and 30 frames per second
abbrev pub is_whole_rate : ℕ → Bool
is_whole_rate high = (high == 232) || ((high == 231) || (high == 226))

-- the header of a file
pub record Header : Type 0 where
  pub format : ℕ
  pub tracks : ℕ
  pub division : ℕ

-- how many tracks a format has
abbrev pub is_track_count : ℕ → ℕ → Bool
is_track_count format tracks = if format == 0 then tracks == 1 else not (tracks == 0)

-- the tests of the three numbers of a header
unfoldable pub header_of : ℕ → ℕ → ℕ → Result Header SmfFault
header_of format tracks division =
    fault_unless (nat_le format 2) UnknownFormat
    (fault_unless (not (format == 2)) Format2
    (fault_unless (is_track_count format tracks) BadTrackCount
    (fault_unless (not (division == 0)) ZeroDivision
    (fault_unless (not (is_frame_division division && division / 256 == 227)) DropFrame
    (fault_unless (not (is_frame_division division && not (is_whole_rate (division / 256))))
    SmpteDivision
    (fault_unless (not (is_frame_division division && division % 256 == 0)) ZeroDivision
    (Ok (record { format = format; tracks = tracks; division = division }))))))))

-- the length that a chunk says it has
abbrev pub size_at : List ℕ → ℕ
size_at bytes = big_number 4 (drop 4 bytes)

-- the length of a header is there, is at least 6, and so many bytes are there
abbrev pub is_long_enough : List ℕ → Bool
is_long_enough bytes =
    nat_le 8 (length bytes)
    && (nat_le 6 (size_at bytes) && nat_le (size_at bytes) (length (drop 8 bytes)))

-- the header of these bytes, and what is left after it
unfoldable pub header_at : List ℕ → Result (Header × List ℕ) SmfFault
header_at bytes =
    fault_unless (nat_le (length bytes) most_bytes) TooLarge
    (fault_unless (starts (codes "MThd") bytes) NotMidi
    (fault_unless (is_long_enough bytes) ShortHeader
    (header_of (big_number 2 (drop 8 bytes)) (big_number 2 (drop 10 bytes))
    (big_number 2 (drop 12 bytes)) >>= λ header.
    Ok (header, drop (size_at bytes) (drop 8 bytes)))))

-- a chunk: whether it holds a track, and its content
pub record Chunk : Type 0 where
  pub is_track : Bool
  pub content : List ℕ

-- a chunk of this length that stands first
abbrev pub chunk_of : List ℕ → ℕ → Chunk
chunk_of left size =
    record { is_track = starts (codes "MTrk") left; content = take size (drop 8 left) }

-- the chunk that stands first, and what is left after it
unfoldable pub chunk_at : List ℕ → Result (Chunk × List ℕ) ChunkFault
chunk_at left =
    fault_unless (nat_le 8 (length left)) Missing
    (fault_unless (nat_le (size_at left) (length (drop 8 left))) Cut
    (Ok (chunk_of left (size_at left), drop (size_at left) (drop 8 left))))
