-- Definition: Why a filter stops a message.
use Rattle.std.specs.Prelude.{ℕ, pos, ◌+ℤ◌, nat_lt, if◌then◌else◌, List, Option, Some, None, is_some}
use Rattle.std.specs.Option.{option_or}
use Rattle.midi_wire.specs.Kinds.{kind_of, channel_number}
use Rattle.route_filter.specs.declared.rule_args.RuleArgs.{RuleArgs}
use Rattle.route_filter.specs.Passing.{note_of, as_note}
use Rattle.route_filter.specs.Rules.{has_kind, has_channel}
use Rattle.way_fates.specs.declared.stop.Stop.{Stop}
use Rattle.way_fates.specs.declared.stop.Stop.TheVariants as stop

-- the rule takes the kind
abbrev pub kind_stop : RuleArgs → List ℕ → Option Stop
kind_stop rule m = if has_kind rule.kinds.0 (kind_of m) then None else Some stop.Kind

-- the channel, if there is one, is in the mask of the rule
abbrev pub stop_of_channel : RuleArgs → Option ℕ → Option Stop
stop_of_channel rule None = None
stop_of_channel rule (Some n) =
    if has_channel rule.channels n then None else Some (stop.Channel n)

abbrev pub channel_stop : RuleArgs → List ℕ → Option Stop
channel_stop rule m = stop_of_channel rule (channel_number m)

-- the note, if there is one, is not below the range of the rule, not above it, and when it is
-- shifted it is still a note
abbrev pub stop_of_note : RuleArgs → Option ℕ → Option Stop
stop_of_note rule None = None
stop_of_note rule (Some note) =
    if nat_lt note rule.low then Some (stop.NoteBelow note rule.low) else
    (if nat_lt rule.high note then Some (stop.NoteAbove note rule.high) else
    (if is_some (as_note (pos note +ℤ rule.shift)) then None else
    Some (stop.NoteShifted note rule.shift)))

abbrev pub note_stop : RuleArgs → List ℕ → Option Stop
note_stop rule m = stop_of_note rule (note_of m)

-- the first test that a message fails: of its kind, of its channel, of its note
abbrev pub stop_by : RuleArgs → List ℕ → Option Stop
stop_by rule m = option_or (kind_stop rule m) (option_or (channel_stop rule m) (note_stop rule m))
