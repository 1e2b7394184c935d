-- Definition: What a message and a parser are seen as.
use Rattle.std.specs.Prelude.{◌≡◌, ◌≤◌, ℕ, ◌+◌, List, [], ◌∷◌, ◌++◌, length, take, drop, Bool, true, false, nat_le, if◌then◌else◌, IsTrue}
use Rattle.std.specs.Rc.{rc_value}
use Rattle.midi_wire.specs.declared.message.Form.{Form}
use Rattle.midi_wire.specs.declared.message.Form.TheVariants.{Short, Exclusive}
use Rattle.midi_wire.specs.declared.message.FullBytes.{FullBytes}
use Rattle.midi_wire.specs.declared.message.FullBytes.TheVariants as full
use Rattle.midi_wire.specs.declared.message.ShortMessage.{ShortMessage}
use Rattle.midi_wire.specs.declared.message.ShortMessage.TheVariants.{One, Two, Three}
use Rattle.midi_wire.specs.declared.parser.LastBlock.{LastBlock}
use Rattle.midi_wire.specs.declared.parser.LastBlock.TheVariants.{Idle, Waiting, Half, Collecting, Overlong}
use Rattle.midi_wire.specs.Messages.{begins, most_data, all_data}
use Rattle.midi_wire.specs.Messages as messages
use Rattle.midi_wire.specs.Readings.{too_long}
use Rattle.midi_wire.specs.Writings.{is_channel}

-- the full bytes of a short message
abbrev pub short_bytes : ShortMessage → List ℕ
short_bytes (One status) = status ∷ []
short_bytes (Two status first) = status ∷ first ∷ []
short_bytes (Three status first second) = status ∷ first ∷ second ∷ []

-- so many of these bytes, from a place on
abbrev pub data_in : ℕ → ℕ → List ℕ → List ℕ
data_in from len bytes = take len (drop from bytes)

-- the exclusive message of these
abbrev pub message_in : ℕ → ℕ → List ℕ → List ℕ
message_in from len bytes = messages.exclusive_message (data_in from len bytes)

-- they are there
abbrev pub IsWithin : Form → Type 0
IsWithin (Short short) = Unit {0}
IsWithin (Exclusive from len bytes) = from + len ≤ length (rc_value bytes).items

-- the full bytes of a message
abbrev pub full_bytes : Form → List ℕ
full_bytes (Short short) = short_bytes short
full_bytes (Exclusive from len bytes) = message_in from len (rc_value bytes).items

-- all bytes of what a message gives
abbrev pub bytes_given : FullBytes → List ℕ
bytes_given (full.Short short) = short_bytes short
bytes_given (full.Exclusive payload) = messages.exclusive_message payload.now

-- a whole exclusive message with so many data bytes stands first
abbrev pub IsExclusiveFront : List ℕ → ℕ → Type 0
IsExclusiveFront bytes count =
    (take (count + 2) bytes ≡ message_in 1 count bytes)
    × IsTrue (all_data (data_in 1 count bytes)) × (count + 2 ≤ length bytes)

-- none does, of whatever length
abbrev pub NoExclusiveFront : List ℕ → Type 0
NoExclusiveFront bytes = (count : ℕ) → IsExclusiveFront bytes count → ⊥

-- what of the last block still matters, as a parser holds it
abbrev pub pending_bytes : LastBlock → List ℕ → List ℕ
pending_bytes Idle payload = []
pending_bytes (Waiting status width) payload = status ∷ []
pending_bytes (Half status first) payload = status ∷ first ∷ []
pending_bytes Collecting payload = 240 ∷ payload
pending_bytes Overlong payload = 240 ∷ too_long

-- what is waited for after a whole message
abbrev pub next_group : messages.Width → ℕ → LastBlock
next_group width status = if is_channel (begins status) then Waiting status width else Idle

-- a status that waits for data
abbrev pub waits : messages.StatusClass → Bool
waits (messages.Channel width) = true
waits (messages.Common width) = true
waits _ = false

-- a status that waits for two data bytes
abbrev pub waits_for_two : messages.StatusClass → Bool
waits_for_two (messages.Channel messages.Two) = true
waits_for_two (messages.Common messages.Two) = true
waits_for_two _ = false

-- a status that waits for so many data bytes
abbrev pub waits_for : messages.Width → messages.StatusClass → Bool
waits_for messages.One (messages.Channel messages.One) = true
waits_for messages.One (messages.Common messages.One) = true
waits_for messages.Two (messages.Channel messages.Two) = true
waits_for messages.Two (messages.Common messages.Two) = true
waits_for _ _ = false

-- what a parser holds is in order
abbrev pub is_sound : LastBlock → List ℕ → Bool
is_sound Idle payload = true
is_sound (Waiting status width) payload = waits_for width (begins status)
is_sound (Half status first) payload = waits_for_two (begins status)
is_sound Collecting payload = nat_le (length payload) most_data
is_sound Overlong payload = true

-- what still matters, and whether memory was refused
pub record Parsing : Type 0 where
  pub rest : List ℕ
  pub failed : Bool

-- a list has gained the first of these messages, maybe none or all
pub record GainsPrefix (old new all : List (List ℕ)) : Type 0 where
  pub gained : List (List ℕ)
  pub missing : List (List ℕ)
  pub now : new ≡ old ++ gained
  pub whole : all ≡ gained ++ missing
