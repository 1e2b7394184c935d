-- Definition: What a filter rule makes of a message.
use Rattle.std.specs.Prelude.{ℕ, ◌+◌, ◌*◌, ◌/◌, ℤ, pos, negsuc, ◌+ℤ◌, Bool, true, false, ◌&&◌, nat_lt, nat_le, List, [], ◌∷◌, Option, Some, None, is_some, option_map, slice_index, if◌then◌else◌}
use Rattle.midi_wire.specs.declared.kind.Kind.{Kind}
use Rattle.midi_wire.specs.declared.kind.Kind.TheVariants.{NoteOff, NoteOn, PolyPressure}
use Rattle.midi_wire.specs.Kinds.{kind_of, channel_number}
use Rattle.route_filter.specs.declared.rule_args.RuleArgs.{RuleArgs}
use Rattle.route_filter.specs.Rules.{has_kind, has_channel}

-- the kinds of messages whose first data byte is a note
abbrev pub has_note : Kind → Bool
has_note NoteOff = true
has_note NoteOn = true
has_note PolyPressure = true
has_note _ = false

-- the note of a message, where it has one
abbrev pub note_of : List ℕ → Option ℕ
note_of m = if has_note (kind_of m) then Some (slice_index m 1) else None

-- the note is within the range of the rule
abbrev pub in_range : RuleArgs → ℕ → Bool
in_range rule note = nat_le rule.low note && nat_le note rule.high

-- the channel, if there is one, is in the mask of the rule
abbrev pub takes_channel : RuleArgs → Option ℕ → Bool
takes_channel rule None = true
takes_channel rule (Some n) = has_channel rule.channels n

-- the note, if there is one, is within the range of the rule
abbrev pub takes_note : RuleArgs → Option ℕ → Bool
takes_note rule None = true
takes_note rule (Some note) = in_range rule note

-- the rule takes the kind of the message, and its own channel and its own note where it has them
abbrev pub is_taken : RuleArgs → List ℕ → Bool
is_taken rule m =
    has_kind rule.kinds.0 (kind_of m)
    && (takes_channel rule (channel_number m) && takes_note rule (note_of m))

-- a number as a note, 0 to 127
abbrev pub as_note : ℤ → Option ℕ
as_note (pos n) = if nat_lt n 128 then Some n else None
as_note (negsuc n) = None

-- a message with this first data byte
abbrev pub with_first : List ℕ → ℕ → List ℕ
with_first (status ∷ first ∷ more) n = status ∷ n ∷ more
with_first m n = m

-- the message with its note shifted, if it has one; nothing where that is no note
abbrev pub shifted_by : ℤ → Option ℕ → List ℕ → Option (List ℕ)
shifted_by shift None m = Some m
shifted_by shift (Some note) m = option_map (with_first m) (as_note (pos note +ℤ shift))

abbrev pub with_shift : ℤ → List ℕ → Option (List ℕ)
with_shift shift m = shifted_by shift (note_of m) m

-- a message whose status has this channel in its lower four bits
abbrev pub on_channel : ℕ → List ℕ → List ℕ
on_channel n [] = []
on_channel n (status ∷ data_bytes) = (status / 16 * 16 + n) ∷ data_bytes

-- the message on this channel, where there is one and the message has a channel
abbrev pub on_rule_channel : Option ℕ → List ℕ → List ℕ
on_rule_channel None m = m
on_rule_channel (Some n) m = if is_some (channel_number m) then on_channel n m else m

-- a message that is taken passes with its note shifted, on the rule's channel; all others are
-- dropped
abbrev pub rule_output : RuleArgs → List ℕ → Option (List ℕ)
rule_output rule m = if is_taken rule m
    then option_map (on_rule_channel rule.channel) (with_shift rule.shift m) else None
