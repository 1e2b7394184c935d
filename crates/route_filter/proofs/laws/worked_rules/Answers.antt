-- The definitions, computed.
use Rattle.std.proofs.Common.{refl}
use Rattle.midi_wire.specs.Messages.{begins}
use Rattle.midi_wire.specs.Kinds.{kind_of_status}
use Rattle.route_filter.proofs.laws.worked_rules.Goals as goal

pub returns-clause-octave_up : goal.returns-clause-octave_up
unfolding begins kind_of_status
returns-clause-octave_up c = record { note_on = refl; other_channel = refl; below = refl; note_off = refl; clock = refl; clock_in_set = refl }

pub returns-clause-to_channel_nine : goal.returns-clause-to_channel_nine
unfolding begins kind_of_status
returns-clause-to_channel_nine c = record { note_on = refl; pitch_bend = refl; other_channel = refl; clock = refl; tune_request = refl; no_channel = refl }

pub returns-clause-leaves_notes : goal.returns-clause-leaves_notes
unfolding begins kind_of_status
returns-clause-leaves_notes c = record { above = refl; below = refl; lowest = refl }
