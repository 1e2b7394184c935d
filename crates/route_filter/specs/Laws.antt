-- Law: What follows for every rule and every message.
use Rattle.std.specs.Prelude.{◌≡◌, ◌↔◌, ℕ, pos, List, Some, None, unwrap_or, IsTrue, IsBitSet}
use Rattle.midi_wire.specs.Messages.{IsMessage}
use Rattle.midi_wire.specs.Kinds.{kind_of, channel_number}
use Rattle.midi_wire.specs.declared.kind.Kind.{Kind}
use Rattle.route_filter.specs.declared.rule_args.RuleArgs.{RuleArgs}
use Rattle.route_filter.specs.Rules.{kind_bit, has_kind, has_channel, is_rule}
use Rattle.route_filter.specs.Passing.{rule_output}

-- what passes is a message
abbrev pub PassesMessages : Type 0
PassesMessages = (rule : RuleArgs) (m n : List ℕ) → IsTrue (is_rule rule) → IsMessage m
    → rule_output rule m ≡ Some n → IsMessage n

-- all channels, all kinds, all notes, no shift and no channel
abbrev pub open_rule : RuleArgs
open_rule = record {
  channels = 65535;
  kinds = record { 0 = 1023 };
  low = 0;
  high = 127;
  shift = pos 0;
  channel = None;
}

-- that rule passes every message unchanged
abbrev pub OpenRulePassesAll : Type 0
OpenRulePassesAll = (m : List ℕ) → IsMessage m → rule_output open_rule m ≡ Some m

-- what passes has the kind that it had
abbrev pub KeepsKind : Type 0
KeepsKind = (rule : RuleArgs) (m n : List ℕ) → IsTrue (is_rule rule) → IsMessage m
    → rule_output rule m ≡ Some n → kind_of n ≡ kind_of m

-- and that kind is in the set of the rule
abbrev pub HasKind : Type 0
HasKind = (rule : RuleArgs) (m n : List ℕ) → rule_output rule m ≡ Some n
    → IsTrue (has_kind rule.kinds.0 (kind_of m))

-- a message without a channel passes unchanged, if at all
abbrev pub SystemMessagesStay : Type 0
SystemMessagesStay = (rule : RuleArgs) (m n : List ℕ) → IsMessage m → channel_number m ≡ None
    → rule_output rule m ≡ Some n → n ≡ m

-- a message of a channel passes on the rule's channel, or on its own where the rule has none
abbrev pub GivesChannel : Type 0
GivesChannel = (rule : RuleArgs) (m n : List ℕ) (channel : ℕ) → IsTrue (is_rule rule) → IsMessage m
    → channel_number m ≡ Some channel → rule_output rule m ≡ Some n
    → channel_number n ≡ Some (unwrap_or rule.channel channel)

-- a mask has a channel where that bit is set
abbrev pub ChannelsAreBits : Type 0
ChannelsAreBits = (channels n : ℕ) → IsTrue (has_channel channels n) ↔ IsBitSet channels n

-- no two kinds have one bit
abbrev pub KindsAreApart : Type 0
KindsAreApart = (k l : Kind) → IsTrue (has_kind (kind_bit k) l) → k ≡ l
