-- Worked rows: A few rules at a few messages.
use Rattle.std.specs.Prelude.{◌≡◌, ℤ, pos, negsuc, [], ◌∷◌, Some, None, false}
use Rattle.route_filter.specs.declared.rule_args.RuleArgs.{RuleArgs}
use Rattle.route_filter.specs.Rules.{is_rule}
use Rattle.route_filter.specs.Passing.{rule_output}

-- note on of channel 0, from note 60 to 72, an octave up
abbrev pub octave_up : RuleArgs
octave_up = record {
  channels = 1;
  kinds = record { 0 = 2 };
  low = 60;
  high = 72;
  shift = pos 12;
  channel = None;
}

pub record OctaveUp : Type 0 where
  pub note_on : rule_output octave_up (0x90 ∷ 0x3C ∷ 0x40 ∷ []) ≡ Some (0x90 ∷ 0x48 ∷ 0x40 ∷ [])
  pub other_channel : rule_output octave_up (0x91 ∷ 0x3C ∷ 0x40 ∷ []) ≡ None
  pub below : rule_output octave_up (0x90 ∷ 0x3B ∷ 0x40 ∷ []) ≡ None
  pub note_off : rule_output octave_up (0x80 ∷ 0x3C ∷ 0x40 ∷ []) ≡ None
  pub clock : rule_output octave_up (0xF8 ∷ []) ≡ None
  pub clock_in_set : rule_output (record octave_up { kinds = record { 0 = 258 } }) (0xF8 ∷ [])
      ≡ Some (0xF8 ∷ [])

-- all of channel 0, to channel 9
abbrev pub to_channel_nine : RuleArgs
to_channel_nine =
    record {
      channels = 1;
      kinds = record { 0 = 1023 };
      low = 0;
      high = 127;
      shift = pos 0;
      channel = Some 9;
    }

pub record ToChannelNine : Type 0 where
  pub note_on : rule_output to_channel_nine (0x90 ∷ 0x3C ∷ 0x40 ∷ [])
      ≡ Some (0x99 ∷ 0x3C ∷ 0x40 ∷ [])
  pub pitch_bend : rule_output to_channel_nine (0xE0 ∷ 0x00 ∷ 0x40 ∷ [])
      ≡ Some (0xE9 ∷ 0x00 ∷ 0x40 ∷ [])
  pub other_channel : rule_output to_channel_nine (0x91 ∷ 0x3C ∷ 0x40 ∷ []) ≡ None
  pub clock : rule_output to_channel_nine (0xF8 ∷ []) ≡ Some (0xF8 ∷ [])
  pub tune_request : rule_output to_channel_nine (0xF6 ∷ []) ≡ Some (0xF6 ∷ [])
  pub no_channel : is_rule (record to_channel_nine { channel = Some 16 }) ≡ false

-- every message, its note moved by this many semitones
abbrev pub moved_by : ℤ → RuleArgs
moved_by shift =
    record {
      channels = 65535;
      kinds = record { 0 = 1023 };
      low = 0;
      high = 127;
      shift = shift;
      channel = None;
    }

-- a note that leaves 0 to 127 is dropped
pub record LeavesNotes : Type 0 where
  pub above : rule_output (moved_by (pos 7)) (0x90 ∷ 0x7D ∷ 0x40 ∷ []) ≡ None
  pub below : rule_output (moved_by (negsuc 60)) (0x90 ∷ 0x3C ∷ 0x40 ∷ []) ≡ None
  pub lowest : rule_output (moved_by (negsuc 60)) (0x90 ∷ 0x3D ∷ 0x40 ∷ [])
      ≡ Some (0x90 ∷ 0x00 ∷ 0x40 ∷ [])
