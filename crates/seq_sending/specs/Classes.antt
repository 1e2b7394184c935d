-- Definition: What of a message its ways hang on.
use Rattle.std.specs.Prelude.{ℕ, List, Option, None, nat_lt, slice_get, if◌then◌else◌}
use Rattle.midi_wire.specs.Writings.{status_of}
use Rattle.midi_wire.specs.declared.status.TheConstants.{EXCLUSIVE}
use Rattle.seq_sending.specs.declared.class.WayClass.{WayClass}

-- the first data byte of a channel message, which is the last that rules look at or change
abbrev pub first_data : List ℕ → Option ℕ
first_data message = if nat_lt (status_of message) EXCLUSIVE then slice_get message 1 else None

-- the class of a message
abbrev pub way_class : List ℕ → WayClass
way_class message = record { status = status_of message; first = first_data message }
