-- Definition: Which arguments make a filter rule, and the sets in them.
use Rattle.std.specs.Prelude.{ℕ, ◌^◌, Bool, true, not, ◌==◌, ◌&&◌, nat_le, Option, Some, None, bit_and, unsigned_abs}
use Rattle.midi_wire.specs.declared.kind.Kind.{Kind}
use Rattle.midi_wire.specs.declared.kind.Kind.TheVariants.{NoteOff, NoteOn, PolyPressure, ControlChange, ProgramChange, ChannelPressure, PitchBend, SystemCommon, RealTime, Exclusive}
use Rattle.route_filter.specs.declared.rule_args.RuleArgs.{RuleArgs}

-- the bit of a kind
abbrev pub kind_bit : Kind → ℕ
kind_bit NoteOff = 1
kind_bit NoteOn = 2
kind_bit PolyPressure = 4
kind_bit ControlChange = 8
kind_bit ProgramChange = 16
kind_bit ChannelPressure = 32
kind_bit PitchBend = 64
kind_bit SystemCommon = 128
kind_bit RealTime = 256
kind_bit Exclusive = 512

-- a set of kinds has this kind
abbrev pub has_kind : ℕ → Kind → Bool
has_kind kinds kind = not (bit_and kinds (kind_bit kind) == 0)

-- a mask of channels has this channel: bit n for channel n
abbrev pub has_channel : ℕ → ℕ → Bool
has_channel channels n = not (bit_and channels (2 ^ n) == 0)

-- no channel, or one from 0 to 15
abbrev pub is_channel_choice : Option ℕ → Bool
is_channel_choice None = true
is_channel_choice (Some n) = nat_le n 15

-- no bit above that of the last kind, a lowest note that is not above the highest, both 0 to 127, a
-- shift from -127 to 127
abbrev pub is_rule : RuleArgs → Bool
is_rule rule =
    nat_le rule.kinds.0 1023 && (nat_le rule.low rule.high && (nat_le rule.high 127
    && (nat_le (unsigned_abs rule.shift) 127 && is_channel_choice rule.channel)))
