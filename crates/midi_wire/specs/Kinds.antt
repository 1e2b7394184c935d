-- Definition: The kinds of messages, and the messages of a channel.
use Rattle.std.specs.Prelude.{ℕ, ◌+◌, ◌%◌, List, [], ◌∷◌, Option, Some, None, Bool, ◌&&◌, ◌||◌, ◌==◌, nat_lt, if◌then◌else◌}
use Rattle.midi_wire.specs.declared.kind.Kind.{Kind}
use Rattle.midi_wire.specs.declared.kind.Kind.TheVariants.{NoteOff, NoteOn, PolyPressure, ControlChange, ProgramChange, ChannelPressure, PitchBend, SystemCommon, RealTime, Exclusive}
use Rattle.midi_wire.specs.Messages.{Width, One, Two, begins}
use Rattle.midi_wire.specs.Writings.{status_of, is_channel}

-- the kind of a message with this status
unfoldable pub kind_of_status : ℕ → Kind
kind_of_status s =
    if nat_lt s 144 then NoteOff else
    (if nat_lt s 160 then NoteOn else
    (if nat_lt s 176 then PolyPressure else
    (if nat_lt s 192 then ControlChange else
    (if nat_lt s 208 then ProgramChange else
    (if nat_lt s 224 then ChannelPressure else
    (if nat_lt s 240 then PitchBend else
    (if s == 240 then Exclusive else
    (if nat_lt s 248 then SystemCommon else RealTime))))))))

-- the kind of a message
abbrev pub kind_of : List ℕ → Kind
kind_of m = kind_of_status (status_of m)

-- how many channels there are
abbrev pub channels : ℕ
channels = 16

-- the channel of a message, where it has one
abbrev pub channel_number : List ℕ → Option ℕ
channel_number m = if is_channel (begins (status_of m)) then Some (status_of m % channels) else None

-- the statuses on channel 0, by how many data bytes they have
abbrev pub is_base : Width → ℕ → Bool
is_base One b = (b == 192) || (b == 208)
is_base Two b = (b == 128) || ((b == 144) || ((b == 160) || ((b == 176) || (b == 224))))

-- a message of a channel with one data byte, and 0 in place of a second
abbrev pub with_one_data : ℕ → ℕ → ℕ → ℕ → Option (List ℕ)
with_one_data base channel first second = if nat_lt channel channels
    && (nat_lt first 128 && second == 0) then Some ((base + channel) ∷ first ∷ []) else None

-- a message of a channel with two data bytes
abbrev pub with_two_data : ℕ → ℕ → ℕ → ℕ → Option (List ℕ)
with_two_data base channel first second = if nat_lt channel channels
    && (nat_lt first 128 && nat_lt second 128) then Some ((base + channel) ∷ first ∷ second ∷ [])
    else None

-- the message of a channel with this kind, channel and data, if there is one
abbrev pub channel_message : Kind → ℕ → ℕ → ℕ → Option (List ℕ)
channel_message NoteOff channel first second = with_two_data 128 channel first second
channel_message NoteOn channel first second = with_two_data 144 channel first second
channel_message PolyPressure channel first second = with_two_data 160 channel first second
channel_message ControlChange channel first second = with_two_data 176 channel first second
channel_message ProgramChange channel first second = with_one_data 192 channel first second
channel_message ChannelPressure channel first second = with_one_data 208 channel first second
channel_message PitchBend channel first second = with_two_data 224 channel first second
channel_message SystemCommon channel first second = None
channel_message RealTime channel first second = None
channel_message Exclusive channel first second = None
