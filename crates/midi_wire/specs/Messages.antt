-- Definition: What a status begins, and the messages.
use Rattle.std.specs.Prelude.{◌≡◌, ◌≤◌, ℕ, ◌+◌, List, [], ◌∷◌, ◌++◌, length, Bool, true, false, IsTrue, ◌&&◌, ◌==◌, nat_lt, nat_le, if◌then◌else◌}
use Rattle.midi_wire.specs.declared.status.TheConstants.{EXCLUSIVE, END_OF_EXCLUSIVE}
pub use Rattle.midi_wire.specs.declared.status.Width.{Width}
pub use Rattle.midi_wire.specs.declared.status.Width.TheVariants.{One, Two}
pub use Rattle.midi_wire.specs.declared.status.StatusClass.{StatusClass}
pub use Rattle.midi_wire.specs.declared.status.StatusClass.TheVariants.{Channel, Common, TuneRequest, Exclusive, RealTime, Nothing}

-- the table of statuses: what each byte begins
unfoldable pub begins : ℕ → StatusClass
begins s =
    if nat_lt s 0x80 then Nothing else
    (if nat_lt s 0xC0 then Channel Two else
    (if nat_lt s 0xE0 then Channel One else
    (if nat_lt s 0xF0 then Channel Two else
    (if s == 0xF0 then Exclusive else
    (if s == 0xF1 then Common One else
    (if s == 0xF2 then Common Two else
    (if s == 0xF3 then Common One else
    (if s == 0xF6 then TuneRequest else
    (if nat_lt s 0xF8 then Nothing else
    (if s == 0xF9 then Nothing else
    (if s == 0xFD then Nothing else
    (if nat_lt s 0x100 then RealTime else Nothing))))))))))))

-- a byte with bit 7 set
abbrev pub is_status : ℕ → Bool
is_status b = nat_le 128 b

-- F8 to FF
abbrev pub is_real_time : ℕ → Bool
is_real_time b = nat_le 248 b

-- how many data bytes an exclusive message has at most
abbrev pub most_data : ℕ
most_data = 65536

-- the full bytes of the exclusive message of this data
abbrev pub exclusive_message : List ℕ → List ℕ
exclusive_message payload = EXCLUSIVE ∷ payload ++ END_OF_EXCLUSIVE ∷ []

-- each is a data byte
abbrev pub all_data : List ℕ → Bool
all_data [] = true
all_data (b ∷ bytes) = nat_lt b 128 && all_data bytes

-- so many data bytes
abbrev pub is_group : Width → List ℕ → Bool
is_group One data_bytes = (length data_bytes == 1) && all_data data_bytes
is_group Two data_bytes = (length data_bytes == 2) && all_data data_bytes

-- data bytes, not too many, and then F7
abbrev pub IsExclusiveTail : List ℕ → Type 0
IsExclusiveTail tail = (payload : List ℕ) × (tail ≡ payload ++ 247 ∷ []) × IsTrue (all_data payload)
    × (length payload ≤ most_data)

-- what may follow a status in a message
abbrev pub IsTail : StatusClass → List ℕ → Type 0
IsTail (Channel width) tail = IsTrue (is_group width tail)
IsTail (Common width) tail = IsTrue (is_group width tail)
IsTail TuneRequest tail = tail ≡ []
IsTail Exclusive tail = IsExclusiveTail tail
IsTail RealTime tail = tail ≡ []
IsTail Nothing tail = ⊥

-- the full bytes of one message: a status, and what the table says of it
abbrev pub IsMessage : List ℕ → Type 0
IsMessage [] = ⊥
IsMessage (status ∷ tail) = IsTail (begins status) tail

-- each is a message
abbrev pub AllMessages : List (List ℕ) → Type 0
AllMessages [] = Unit {0}
AllMessages (m ∷ ms) = IsMessage m × AllMessages ms

-- data bytes, with F7 as the last
abbrev pub ends_data : List ℕ → Bool
ends_data [] = false
ends_data (b ∷ []) = b == 247
ends_data (b ∷ c ∷ more) = nat_lt b 128 && ends_data (c ∷ more)

-- what may follow a status in a message, as a test
abbrev pub is_tail : StatusClass → List ℕ → Bool
is_tail (Channel width) tail = is_group width tail
is_tail (Common width) tail = is_group width tail
is_tail TuneRequest tail = length tail == 0
is_tail Exclusive tail = nat_le (length tail) (most_data + 1) && ends_data tail
is_tail RealTime tail = length tail == 0
is_tail Nothing tail = false

-- the full bytes of one message, as a test
abbrev pub is_message : List ℕ → Bool
is_message [] = false
is_message (status ∷ tail) = is_tail (begins status) tail
