-- Definition: Entries as objects of JSON (RFC 8259), one on each line.
use Rattle.std.specs.Prelude.{ℕ, ◌+◌, ◌*◌, ◌/◌, ◌%◌, ◌==◌, nat_lt, Bool, ◌||◌, if◌then◌else◌, List, [], ◌∷◌, ◌++◌, Option, Some, None, codes}
use Rattle.std.specs.List.{flat_map}
use Rattle.std.specs.Fmt.{decimal}
use Rattle.std.specs.Str.{byte}
use Rattle.text_forms.specs.Hex.{in_hex}
use Rattle.log_forms.specs.declared.kind.MessageKind.{MessageKind}
use Rattle.log_forms.specs.declared.kind.MessageKind.TheVariants.{NoteOff, NoteOn, PolyPressure, ControlChange, ProgramChange, ChannelPressure, PitchBend, QuarterFrame, SongPosition, SongSelect}
use Rattle.log_forms.specs.declared.kind.Shape.{Shape}
use Rattle.log_forms.specs.declared.kind.Shape.TheVariants.{Two, Three}
use Rattle.log_forms.specs.Kinds.{kind_of, kind_name, shape_of, status_in, channel_from_1}
use Rattle.log_forms.specs.Entries.{Arrival, Entry, Outcome, Skip, Delivery, Received, Reply, Listed, Done, Count, Queue, Pools, Refused}

-- ---- strings

-- 0 to 9 and a to f
abbrev pub small_digit : ℕ → ℕ
small_digit n = if nat_lt n 10 then 48 + n else 87 + n

abbrev pub needs_escape : ℕ → Bool
needs_escape b = (b == byte "\"") || ((b == byte "\\") || nat_lt b 32)

-- a quotation mark, a backslash and a control character are escaped
abbrev pub escaped : ℕ → List ℕ
escaped b =
    if b == byte "\"" then codes "\\\"" else
    (if b == byte "\\" then codes "\\\\" else
    (if nat_lt b 32 then codes "\\u00" ++ small_digit (b / 16) ∷ small_digit (b % 16) ∷ []
    else b ∷ []))

-- ---- objects

-- A member of an object: its name, and a number, a word that needs no escape, or a text.
pub data Member : Type 0 where
  Number : List ℕ → List ℕ → Member
  Word : List ℕ → List ℕ → Member
  Text : List ℕ → List ℕ → Member

abbrev pub member : Member → List ℕ → List ℕ
member (Number name digits) rest = codes "\"" ++ (name ++ (codes "\":" ++ (digits ++ rest)))
member (Word name word) rest =
    codes "\"" ++ (name ++ (codes "\":\"" ++ (word ++ (codes "\"" ++ rest))))
member (Text name text) rest =
    codes "\"" ++ (name ++ (codes "\":\"" ++ (flat_map escaped text ++ (codes "\"" ++ rest))))

-- the further members of an object, and its end
abbrev pub members : List Member → List ℕ
members [] = codes "}\n"
members (m ∷ ms) = codes "," ++ member m (members ms)

abbrev pub object : List ℕ → List Member → List ℕ
object entry ms = codes "{" ++ member (Word (codes "entry") entry) (members ms)

-- ---- messages

-- the members that a message of two bytes has for its data
abbrev pub one_datum : MessageKind → ℕ → List Member
one_datum ProgramChange a = Number (codes "program") (decimal a) ∷ []
one_datum ChannelPressure a = Number (codes "pressure") (decimal a) ∷ []
one_datum QuarterFrame a = Number (codes "data") (decimal a) ∷ []
one_datum SongSelect a = Number (codes "song") (decimal a) ∷ []
one_datum _ a = []

-- 14 bits, the less significant seven first
abbrev pub fourteen_bits : ℕ → ℕ → ℕ
fourteen_bits a b = a + 128 * b

-- the members that a message of three bytes has for its data
abbrev pub two_data : MessageKind → ℕ → ℕ → List Member
two_data NoteOff a b =
    Number (codes "note") (decimal a) ∷ Number (codes "velocity") (decimal b) ∷ []
two_data NoteOn a b =
    Number (codes "note") (decimal a) ∷ Number (codes "velocity") (decimal b) ∷ []
two_data PolyPressure a b =
    Number (codes "note") (decimal a) ∷ Number (codes "pressure") (decimal b) ∷ []
two_data ControlChange a b =
    Number (codes "controller") (decimal a) ∷ Number (codes "value") (decimal b) ∷ []
two_data PitchBend a b = Number (codes "value") (decimal (fourteen_bits a b)) ∷ []
two_data SongPosition a b = Number (codes "position") (decimal (fourteen_bits a b)) ∷ []
two_data _ a b = []

abbrev pub data_members : MessageKind → Shape → List Member
data_members kind (Two s a) = one_datum kind a
data_members kind (Three s a b) = two_data kind a b
data_members kind _ = []

abbrev pub with_channel : Option ℕ → List Member → List Member
with_channel None ms = ms
with_channel (Some channel) ms = Number (codes "channel") (decimal channel) ∷ ms

abbrev pub channel_members : MessageKind → Shape → List Member
channel_members kind m = with_channel (channel_from_1 (status_in m)) (data_members kind m)

abbrev pub message_members : Shape → List Member
message_members m =
    Word (codes "kind") (kind_name (kind_of (status_in m)))
    ∷ channel_members (kind_of (status_in m)) m

-- ---- entries; the number of the client is a text like the others

abbrev pub json_arrival : List ℕ → List ℕ → Arrival → List ℕ
json_arrival entry client a = object entry (
    Number (codes "client") client ∷ Number (codes "moment") a.moment
    ∷ Number (codes "port") a.port ∷ Word (codes "bytes") (in_hex a.message)
    ∷ message_members (shape_of a.message))

abbrev pub ok : Member
ok = Word (codes "outcome") (codes "ok")

abbrev pub outcome_members : Outcome → List Member
outcome_members Done = ok ∷ []
outcome_members (Count n) = ok ∷ Number (codes "count") n ∷ []
outcome_members (Queue state tick nanos) =
    ok ∷ Word (codes "queue") state ∷ Number (codes "tick") tick ∷ Number (codes "nanos") nanos
    ∷ []
outcome_members (Pools waiting lost used) =
    ok ∷ Number (codes "waiting") waiting ∷ Number (codes "lost") lost
    ∷ Number (codes "used") used ∷ []
outcome_members (Refused n name) =
    Word (codes "outcome") (codes "refused") ∷ Number (codes "refusal") n
    ∷ Word (codes "name") name ∷ []

abbrev pub json_reply : List ℕ → List ℕ → List ℕ → Outcome → List ℕ
json_reply client moment line outcome = object (codes "reply") (
    Number (codes "client") client ∷ Number (codes "moment") moment
    ∷ Number (codes "line") line ∷ outcome_members outcome)

abbrev pub json_skip : List ℕ → List ℕ → List ℕ → List ℕ
json_skip client line reason = object (codes "skip") (
    Number (codes "client") client ∷ Number (codes "line") line
    ∷ Word (codes "reason") reason ∷ [])

abbrev pub json_listed : List ℕ → List ℕ
json_listed text = object (codes "list") (Text (codes "text") text ∷ [])

abbrev pub json_entry : List ℕ → Entry → List ℕ
json_entry client (Skip line reason) = json_skip client line reason
json_entry client (Delivery a) = json_arrival (codes "delivery") client a
json_entry client (Received a) = json_arrival (codes "received") client a
json_entry client (Reply moment line outcome) = json_reply client moment line outcome
json_entry client (Listed text) = json_listed text
