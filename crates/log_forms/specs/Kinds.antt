-- Definition: The kinds of messages, and the bytes that they are told by.
use Rattle.std.specs.Prelude.{ℕ, ◌+◌, ◌==◌, nat_lt, if◌then◌else◌, List, [], ◌∷◌, Option, Some, None, codes}
use Rattle.std.specs.Option.{option_map}
use Rattle.midi_wire.specs.Kinds.{channel_number}
use Rattle.midi_wire.specs.declared.status.TheConstants.{EXCLUSIVE}
use Rattle.log_forms.specs.declared.kind.MessageKind.{MessageKind}
use Rattle.log_forms.specs.declared.kind.MessageKind.TheVariants.{NoteOff, NoteOn, PolyPressure, ControlChange, ProgramChange, ChannelPressure, PitchBend, Exclusive, QuarterFrame, SongPosition, SongSelect, TuneRequest, Clock, Start, Continue, Stop, ActiveSensing, Reset, Undefined}
use Rattle.log_forms.specs.declared.kind.Shape.{Shape}
use Rattle.log_forms.specs.declared.kind.Shape.TheVariants.{One, Two, Three, Other}

-- the kind of a message with this status
unfoldable pub kind_of : ℕ → MessageKind
kind_of s =
    if nat_lt s 0x80 then Undefined else
    (if nat_lt s 0x90 then NoteOff else
    (if nat_lt s 0xA0 then NoteOn else
    (if nat_lt s 0xB0 then PolyPressure else
    (if nat_lt s 0xC0 then ControlChange else
    (if nat_lt s 0xD0 then ProgramChange else
    (if nat_lt s 0xE0 then ChannelPressure else
    (if nat_lt s 0xF0 then PitchBend else
    (if s == 0xF0 then Exclusive else
    (if s == 0xF1 then QuarterFrame else
    (if s == 0xF2 then SongPosition else
    (if s == 0xF3 then SongSelect else
    (if s == 0xF6 then TuneRequest else
    (if s == 0xF8 then Clock else
    (if s == 0xFA then Start else
    (if s == 0xFB then Continue else
    (if s == 0xFC then Stop else
    (if s == 0xFE then ActiveSensing else
    (if s == 0xFF then Reset else Undefined))))))))))))))))))

abbrev pub kind_name : MessageKind → List ℕ
kind_name NoteOff = codes "note_off"
kind_name NoteOn = codes "note_on"
kind_name PolyPressure = codes "poly_pressure"
kind_name ControlChange = codes "control_change"
kind_name ProgramChange = codes "program_change"
kind_name ChannelPressure = codes "channel_pressure"
kind_name PitchBend = codes "pitch_bend"
kind_name Exclusive = codes "exclusive"
kind_name QuarterFrame = codes "quarter_frame"
kind_name SongPosition = codes "song_position"
kind_name SongSelect = codes "song_select"
kind_name TuneRequest = codes "tune_request"
kind_name Clock = codes "clock"
kind_name Start = codes "start"
kind_name Continue = codes "continue"
kind_name Stop = codes "stop"
kind_name ActiveSensing = codes "active_sensing"
kind_name Reset = codes "reset"
kind_name Undefined = codes "undefined"

-- ---- a message, by how many bytes it has

abbrev pub short_shape : ℕ → List ℕ → Shape
short_shape s [] = One s
short_shape s (first ∷ []) = Two s first
short_shape s (first ∷ second ∷ []) = Three s first second
short_shape s _ = Other s

abbrev pub shape_of : List ℕ → Shape
shape_of [] = Other 0
shape_of (s ∷ tail) = if s == EXCLUSIVE then Other s else short_shape s tail

abbrev pub status_in : Shape → ℕ
status_in (One s) = s
status_in (Two s first) = s
status_in (Three s first second) = s
status_in (Other s) = s

-- the data bytes of a message that is not exclusive
abbrev pub first_data : Shape → Option ℕ
first_data (Two s first) = Some first
first_data (Three s first second) = Some first
first_data _ = None

abbrev pub second_data : Shape → Option ℕ
second_data (Three s first second) = Some second
second_data _ = None

-- the channel of a message with this status, from 1 on, where it has one
abbrev pub channel_from_1 : ℕ → Option ℕ
channel_from_1 s = option_map (λ channel. channel + 1) (channel_number (s ∷ []))
