-- Definition: What the lines of a Standard MIDI File as text say: its header, a track, and an event
-- at its tick.
use Rattle.std.specs.Prelude.{ℕ, ◌+◌, ◌-◌, ◌*◌, ◌^◌, ◌%◌, ◌==◌, ◌&&◌, Bool, true, not, if◌then◌else◌, List, [], ◌∷◌, ◌++◌, Option, Some, None, is_some, codes}
use Rattle.std.specs.Option.{option_map, option_and_then}
use Rattle.std.specs.Str.{bytes_eq}
use Rattle.byteorder.specs.Endian.{big_bytes}
use Rattle.script_text.specs.Numbers.{only_if, both, up_to, u16, u64, hex_digit, hex_byte, hex_bytes}
use Rattle.script_text.specs.Scripts.{is_remark}
use Rattle.script_text.specs.Words.{is_blank, words}
use Rattle.smf_grammar.specs.Chunks.{Header}
use Rattle.smf_grammar.specs.Pairs.{TrackEvent, Voice, Exclusive, Escape, Meta}
use Rattle.smf_grammar.specs.Seen.{is_event_sound}
use Rattle.smf_grammar.specs.Written.{has_bytes, header_refusal}
use Rattle.smf_text.specs.AllTexts.{Shape, Quoted, Numbers, Key, Bytes, meta_words}

-- ---- words

-- without the blanks at its front
abbrev pub unindented : List ℕ → List ℕ
unindented [] = []
unindented (b ∷ bytes) = if is_blank b then unindented bytes else b ∷ bytes

-- from its first blank on
abbrev pub from_blank : List ℕ → List ℕ
from_blank [] = []
from_blank (b ∷ bytes) = if is_blank b then b ∷ bytes else from_blank bytes

-- what stands behind its first word
abbrev pub behind_word : List ℕ → List ℕ
behind_word line = from_blank (unindented line)

-- the line says nothing: it has no words, or is a remark
abbrev pub passed_over : List (List ℕ) → Bool
passed_over [] = true
passed_over (w ∷ ws) = is_remark w

abbrev pub is_passed_over : List ℕ → Bool
is_passed_over line = passed_over (words line)

-- ---- bytes between quotation marks

-- what stood before, between quotation marks
pub data QuotePlace : Type 0 where
  -- a whole byte, or the mark that begins them
  Whole : QuotePlace
  -- a backslash
  Escaping : QuotePlace
  -- a backslash and x
  Digits : QuotePlace
  -- a backslash, x, and a digit of this value
  LastDigit : ℕ → QuotePlace
  -- the mark that ends them
  Closed : QuotePlace

-- the bytes that are said from such a place on: each is its own, but for \x and two hexadecimal
-- digits, up to a mark with nothing but blanks behind it
unfoldable pub quoted_from : QuotePlace → List ℕ → Option (List ℕ)
quoted_from Whole [] = None
quoted_from Whole (b ∷ text) =
    if b == 34 then quoted_from Closed text
    else (if b == 92 then quoted_from Escaping text
    else option_map (λ bytes. b ∷ bytes) (quoted_from Whole text))
quoted_from Escaping [] = None
quoted_from Escaping (b ∷ text) = if b == 120 then quoted_from Digits text else None
quoted_from Digits [] = None
quoted_from Digits (b ∷ text) =
    option_and_then (λ high. quoted_from (LastDigit high) text) (hex_digit b)
quoted_from (LastDigit high) [] = None
quoted_from (LastDigit high) (b ∷ text) =
    both (λ low bytes. (high * 16 + low) ∷ bytes) (hex_digit b) (quoted_from Whole text)
quoted_from Closed [] = Some []
quoted_from Closed (b ∷ text) = if is_blank b then quoted_from Closed text else None

abbrev pub mark_opened : List ℕ → Option (List ℕ)
mark_opened [] = None
mark_opened (b ∷ text) = if b == 34 then quoted_from Whole text else None

-- the bytes between two quotation marks, which blanks may surround
abbrev pub quoted_said : List ℕ → Option (List ℕ)
quoted_said text = mark_opened (unindented text)

-- ---- meta events

-- a number for so many bytes, for each of these, the highest byte first
abbrev pub numbers_said : List ℕ → List (List ℕ) → Option (List ℕ)
numbers_said [] [] = Some []
numbers_said [] (w ∷ ws) = None
numbers_said (size ∷ sizes) [] = None
numbers_said (size ∷ sizes) (w ∷ ws) =
    both (λ n bytes. big_bytes size n ++ bytes) (up_to (256 ^ size - 1) w) (numbers_said sizes ws)

-- the byte of a number from -128 to 127
abbrev pub signed_said : List ℕ → Option ℕ
signed_said [] = None
signed_said (b ∷ word) =
    if b == 45 then option_map (λ n. (256 - n) % 256) (up_to 128 word) else up_to 127 (b ∷ word)

-- a number with a sign, and one without
abbrev pub key_said : List (List ℕ) → Option (List ℕ)
key_said (key ∷ mode ∷ []) = both (λ b c. b ∷ c ∷ []) (signed_said key) (up_to 255 mode)
key_said _ = None

-- the bytes of a meta event of this shape
abbrev pub shape_said : Shape → List ℕ → Option (List ℕ)
shape_said Quoted text = quoted_said text
shape_said (Numbers sizes) text = numbers_said sizes (words text)
shape_said Key text = key_said (words text)
shape_said Bytes text = hex_bytes (words text)

-- the type of meta events that this word names, with their shape
abbrev pub type_among : List ℕ → List (ℕ × (List ℕ × Shape)) → Option (ℕ × Shape)
type_among word [] = None
type_among word (row ∷ rows) =
    if bytes_eq row.1.0 word then Some (row.0, row.1.1) else type_among word rows

abbrev pub type_named : List ℕ → Option (ℕ × Shape)
type_named word = type_among word meta_words

abbrev pub named_meta_said : Option (ℕ × Shape) → List ℕ → Option TrackEvent
named_meta_said None text = None
named_meta_said (Some found) text = option_map (Meta found.0) (shape_said found.1 text)

-- a type and bytes
abbrev pub plain_meta_said : List (List ℕ) → Option TrackEvent
plain_meta_said [] = None
plain_meta_said (kind ∷ ws) = both Meta (hex_byte kind) (hex_bytes ws)

-- ---- events

-- by its first byte: F0 or F7 with the bytes behind it, or a message of a channel
abbrev pub event_of_bytes : List ℕ → Option TrackEvent
event_of_bytes [] = None
event_of_bytes (b ∷ bytes) =
    if b == 240 then Some (Exclusive bytes)
    else (if b == 247 then Some (Escape bytes) else only_if is_event_sound (Some (Voice b bytes)))

-- by its first word, behind which this text stands
abbrev pub event_by : List (List ℕ) → List ℕ → Option TrackEvent
event_by [] text = None
event_by (w ∷ ws) text =
    if is_some (hex_byte w) then option_and_then event_of_bytes (hex_bytes (w ∷ ws))
    else (if bytes_eq w (codes "meta") then plain_meta_said ws
    else named_meta_said (type_named w) text)

-- an event that a track can have
abbrev pub event_said : List ℕ → Option TrackEvent
event_said text = only_if has_bytes (event_by (words text) (behind_word text))

abbrev pub timed_by : List (List ℕ) → List ℕ → Option (ℕ × TrackEvent)
timed_by [] text = None
timed_by (w ∷ ws) text = both (λ tick event. (tick, event)) (u64 w) (event_said text)

-- a tick, and an event
unfoldable pub timed_event : List ℕ → Option (ℕ × TrackEvent)
timed_event line = timed_by (words line) (behind_word line)

-- ---- the other lines

-- `track 0`
abbrev pub track_said_by : List (List ℕ) → Option ℕ
track_said_by (word ∷ n ∷ []) = if bytes_eq word (codes "track") then u16 n else None
track_said_by _ = None

unfoldable pub track_said : List ℕ → Option ℕ
track_said line = track_said_by (words line)

-- a file can have this header
abbrev pub can_head : Header → Bool
can_head h = not (is_some (header_refusal h.format h.tracks h.division))

abbrev pub header_of_three : Option ℕ → Option ℕ → Option ℕ → Option Header
header_of_three (Some f) (Some n) (Some d) =
    Some (record { format = f; tracks = n; division = d })
header_of_three _ _ _ = None

-- `format 1 tracks 2 division 480`
abbrev pub header_by : List (List ℕ) → Option Header
header_by (f ∷ format ∷ t ∷ tracks ∷ d ∷ division ∷ []) =
    if bytes_eq f (codes "format") && (bytes_eq t (codes "tracks") && bytes_eq d (codes "division"))
    then only_if can_head (header_of_three (u16 format) (u16 tracks) (u16 division)) else None
header_by _ = None

unfoldable pub header_said : List ℕ → Option Header
header_said line = header_by (words line)
