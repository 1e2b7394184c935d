-- Definition: What is written for a list of messages.
use Rattle.std.specs.Prelude.{ℕ, List, [], ◌∷◌, ◌++◌, Bool, true, false, Option, Some, None, ◌==◌, ◌&&◌, if◌then◌else◌}
use Rattle.midi_wire.specs.Messages.{StatusClass, Channel, RealTime, begins}

-- the status of a message
abbrev pub status_of : List ℕ → ℕ
status_of [] = 0
status_of (s ∷ tail) = s

-- what follows it
abbrev pub tail_of : List ℕ → List ℕ
tail_of [] = []
tail_of (s ∷ tail) = tail

abbrev pub is_channel : StatusClass → Bool
is_channel (Channel width) = true
is_channel _ = false

abbrev pub is_real : StatusClass → Bool
is_real RealTime = true
is_real _ = false

-- the last message before that is not real time has this status (the latest comes first)
abbrev pub repeats : List (List ℕ) → ℕ → Bool
repeats [] s = false
repeats (e ∷ before) s =
    if is_real (begins (status_of e)) then repeats before s else (status_of e == s)

-- a message after those: the status is left out where a channel message repeats it
abbrev pub written_next : List (List ℕ) → List ℕ → List ℕ
written_next before m =
    if is_channel (begins (status_of m)) && repeats before (status_of m) then tail_of m else m

abbrev pub written_on : List (List ℕ) → List (List ℕ) → List ℕ
written_on before [] = []
written_on before (m ∷ ms) = written_next before m ++ written_on (m ∷ before) ms

-- the bytes of messages as one stream, from its beginning on
abbrev pub wire_bytes : List (List ℕ) → List ℕ
wire_bytes ms = written_on [] ms

-- a message with a status, or none
abbrev pub message_with : Option ℕ → List (List ℕ)
message_with None = []
message_with (Some s) = (s ∷ []) ∷ []

-- the bytes of messages where this status is in force, or none
abbrev pub written_after : Option ℕ → List (List ℕ) → List ℕ
written_after q ms = written_on (message_with q) ms

-- the status in force after a message
abbrev pub status_after : Option ℕ → List ℕ → Option ℕ
status_after q m = if is_channel (begins (status_of m)) then Some (status_of m)
    else (if is_real (begins (status_of m)) then q else None)

-- the status in force after messages
abbrev pub status_after_all : Option ℕ → List (List ℕ) → Option ℕ
status_after_all q [] = q
status_after_all q (m ∷ ms) = status_after_all (status_after q m) ms

-- the status in force at the end of a stream of messages
abbrev pub status_in_force : List (List ℕ) → Option ℕ
status_in_force ms = status_after_all None ms
