-- Definition: A Standard MIDI File in a RIFF container of type RMID: the content of its first chunk
-- of type `data`.
use Rattle.std.specs.Prelude.{ℕ, zero, suc, ◌+◌, ◌%◌, Bool, List, length, take, drop, Option, Some, None, nat_le, ◌&&◌, if◌then◌else◌, codes}
use Rattle.byteorder.specs.Endian.{little_number}
use Rattle.smf_grammar.specs.Chunks.{starts}

-- RIFF, a length that nothing hangs on, and the type RMID
abbrev pub is_rmid : List ℕ → Bool
is_rmid bytes = starts (codes "RIFF") bytes && starts (codes "RMID") (drop 8 bytes)

-- the length that a chunk of a container says it has, lowest byte first
abbrev pub riff_size : List ℕ → ℕ
riff_size left = little_number 4 (drop 4 left)

-- a chunk of a container stands first: its type, its length, and so many bytes
abbrev pub has_riff_chunk : List ℕ → Bool
has_riff_chunk left = nat_le 8 (length left) && nat_le (riff_size left) (length (drop 8 left))

abbrev pub riff_content : List ℕ → List ℕ
riff_content left = take (riff_size left) (drop 8 left)

-- what is left behind it; a byte of padding follows an odd length
abbrev pub riff_left : List ℕ → List ℕ
riff_left left = drop (riff_size left + riff_size left % 2) (drop 8 left)

-- the content of the first chunk `data` among the first chunks, of which so many are looked at
unfoldable pub data_among : ℕ → List ℕ → Option (List ℕ)
data_among zero left = None
data_among (suc n) left =
    if has_riff_chunk left
    then (if starts (codes "data") left then Some (riff_content left)
    else data_among n (riff_left left))
    else None

abbrev pub content_or : List ℕ → Option (List ℕ) → List ℕ
content_or bytes None = bytes
content_or bytes (Some content) = content

-- the content of the first chunk `data` of a container, whose chunks take 8 bytes each at least;
-- all other bytes as they are
unfoldable pub midi_in : List ℕ → List ℕ
midi_in bytes =
    if is_rmid bytes then content_or bytes (data_among (length bytes) (drop 12 bytes)) else bytes
