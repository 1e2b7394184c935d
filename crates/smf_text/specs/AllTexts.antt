-- Definition: All that a Standard MIDI File says, as text: the events of each track, each at its
-- tick (Standard MIDI Files 1.0, "Meta-Events").
use Rattle.std.specs.Prelude.{ℕ, ◌+◌, ◌-◌, ◌/◌, ◌%◌, suc, Bool, true, nat_le, nat_lt, ◌==◌, ◌&&◌, ◌||◌, not, if◌then◌else◌, List, [], ◌∷◌, ◌++◌, length, drop, Option, Some, None, codes}
use Rattle.std.specs.Fmt.{decimal}
use Rattle.std.specs.List.{flat_map}
use Rattle.std.specs.Map.{lookup}
use Rattle.byteorder.specs.Endian.{big_number}
use Rattle.smf_grammar.specs.Pairs.{TrackEvent, Voice, Exclusive, Escape, Meta, Pair}
use Rattle.smf_grammar.specs.Files.{MidiFile}
use Rattle.text_forms.specs.Hex.{digit, spaced_hex}
use Rattle.tool_text.specs.Dump.{head_line}

-- ---- meta events

-- how the bytes of a meta event are written
pub data Shape : Type 0 where
  -- between quotation marks
  Quoted : Shape
  -- a number for so many bytes, for each of these
  Numbers : List ℕ → Shape
  -- sharps, or flats as a negative number, and 0 for major or 1 for minor
  Key : Shape
  -- in hexadecimal
  Bytes : Shape

-- the word and the shape of each type that has a name
unfoldable pub meta_words : List (ℕ × (List ℕ × Shape))
meta_words =
    (0, (codes "sequence", Numbers (2 ∷ [])))
    ∷ (1, (codes "text", Quoted))
    ∷ (2, (codes "copyright", Quoted))
    ∷ (3, (codes "name", Quoted))
    ∷ (4, (codes "instrument", Quoted))
    ∷ (5, (codes "lyric", Quoted))
    ∷ (6, (codes "marker", Quoted))
    ∷ (7, (codes "cue", Quoted))
    ∷ (8, (codes "program", Quoted))
    ∷ (9, (codes "device", Quoted))
    ∷ (32, (codes "channel", Numbers (1 ∷ [])))
    ∷ (33, (codes "port", Numbers (1 ∷ [])))
    ∷ (47, (codes "end", Numbers []))
    ∷ (81, (codes "tempo", Numbers (3 ∷ [])))
    ∷ (84, (codes "smpte", Numbers (1 ∷ 1 ∷ 1 ∷ 1 ∷ 1 ∷ [])))
    ∷ (88, (codes "time", Numbers (1 ∷ 1 ∷ 1 ∷ 1 ∷ [])))
    ∷ (89, (codes "key", Key))
    ∷ (127, (codes "sequencer", Bytes))
    ∷ []

-- two digits
abbrev pub hex_of : ℕ → List ℕ
hex_of b = digit (b / 16) ∷ digit (b % 16) ∷ []

-- a byte between quotation marks: a visible ASCII character or a space as it is, but for the
-- quotation mark and the backslash; any other by its number, as \x0A
abbrev pub quoted_byte : ℕ → List ℕ
quoted_byte b =
    if (nat_le 32 b && nat_lt b 127) && not ((b == 34) || (b == 92)) then b ∷ []
    else 92 ∷ 120 ∷ hex_of b

-- bytes between quotation marks
abbrev pub quoted : List ℕ → List ℕ
quoted bytes = 34 ∷ flat_map quoted_byte bytes ++ 34 ∷ []

-- a space and a number for so many bytes, for each of these
abbrev pub numbers_text : List ℕ → List ℕ → List ℕ
numbers_text [] bytes = []
numbers_text (size ∷ sizes) bytes =
    32 ∷ decimal (big_number size bytes) ++ numbers_text sizes (drop size bytes)

-- a byte as a number from -128 to 127
abbrev pub signed : ℕ → List ℕ
signed b = if nat_lt b 128 then decimal b else 45 ∷ decimal (256 - b)

abbrev pub key_text : List ℕ → List ℕ
key_text [] = []
key_text (b ∷ bytes) = 32 ∷ signed b ++ numbers_text (1 ∷ []) bytes

abbrev pub sum_of : List ℕ → ℕ
sum_of [] = 0
sum_of (n ∷ ns) = n + sum_of ns

-- the shape can have so many bytes
abbrev pub fits : Shape → ℕ → Bool
fits Quoted count = true
fits (Numbers sizes) count = count == sum_of sizes
fits Key count = count == 2
fits Bytes count = true

abbrev pub shape_text : Shape → List ℕ → List ℕ
shape_text Quoted bytes = 32 ∷ quoted bytes
shape_text (Numbers sizes) bytes = numbers_text sizes bytes
shape_text Key bytes = key_text bytes
shape_text Bytes bytes = spaced_hex bytes

-- by its type and its bytes
abbrev pub plain_meta : ℕ → List ℕ → List ℕ
plain_meta kind bytes = codes "meta " ++ hex_of kind ++ spaced_hex bytes

abbrev pub named_meta : ℕ → List ℕ → Option (List ℕ × Shape) → List ℕ
named_meta kind bytes None = plain_meta kind bytes
named_meta kind bytes (Some word) =
    if fits word.1 (length bytes) then (word.0 ++ shape_text word.1 bytes)
    else plain_meta kind bytes

-- a meta event: by its name where it has one and its bytes have that shape
abbrev pub meta_text : ℕ → List ℕ → List ℕ
meta_text kind bytes = named_meta kind bytes (lookup (λ k. k == kind) meta_words)

-- ---- tracks

-- an event behind its tick: a message of a channel, F0 or F7 with the bytes that its length counts,
-- or a meta event
abbrev pub event_text : TrackEvent → List ℕ
event_text (Voice status payload) = spaced_hex (status ∷ payload)
event_text (Exclusive bytes) = spaced_hex (240 ∷ bytes)
event_text (Escape bytes) = spaced_hex (247 ∷ bytes)
event_text (Meta kind bytes) = 32 ∷ meta_text kind bytes

-- the line of an event at a tick
abbrev pub line_text : ℕ → TrackEvent → List ℕ
line_text tick event = decimal tick ++ event_text event ++ 10 ∷ []

-- a line for each pair; so many ticks passed before
abbrev pub pair_lines : ℕ → List Pair → List ℕ
pair_lines tick [] = []
pair_lines tick (p ∷ ps) =
    line_text (tick + p.delta) p.event ++ pair_lines (tick + p.delta) ps

-- a line with the number of a track, above those of its pairs
abbrev pub track_text : ℕ → List Pair → List ℕ
track_text track ps = codes "track " ++ decimal track ++ 10 ∷ pair_lines 0 ps

-- the lines of all tracks; the first has this number
abbrev pub track_lines : ℕ → List (List Pair) → List ℕ
track_lines track [] = []
track_lines track (ps ∷ tracks) = track_text track ps ++ track_lines (suc track) tracks

-- all that a file says
abbrev pub all_text : MidiFile → List ℕ
all_text f = head_line f ++ track_lines 0 f.tracks
