-- Representation: What a node has beside its name and its capabilities: a port the end of its
-- stream, a filter its rule.
use Rattle.std.specs.Prelude.{ℕ, Bool, true, false, List, [], Option, Some, None, pos}
use Rattle.node_table.specs.declared.number.Node.{Node}
use Rattle.node_table.specs.declared.number.Node.TheVariants.{Port, Filter}
use Rattle.route_filter.specs.declared.rule_args.RuleArgs.{RuleArgs}
use Rattle.seq_clients.specs.declared.body.NodeBody.{NodeBody}
use Rattle.seq_clients.specs.declared.body.NodeBody.TheVariants.{Stream, Rule}

-- what still matters of the bytes that a port was fed
abbrev pub stream_of : NodeBody → List ℕ
stream_of (Stream fed) = fed
stream_of (Rule rule) = []

-- a rule that takes nothing
abbrev pub no_rule : RuleArgs
no_rule = record {
  channels = 0;
  kinds = record { 0 = 0 };
  low = 0;
  high = 0;
  shift = pos 0;
  channel = None;
}

abbrev pub rule_of_body : NodeBody → RuleArgs
rule_of_body (Stream fed) = no_rule
rule_of_body (Rule rule) = rule

-- the rule, where it is one
abbrev pub rule_in : NodeBody → Option RuleArgs
rule_in (Stream fed) = None
rule_in (Rule rule) = Some rule

-- a port has a stream, and a filter a rule
abbrev pub is_body_for : Node → NodeBody → Bool
is_body_for (Port n) (Stream fed) = true
is_body_for (Port n) (Rule rule) = false
is_body_for (Filter n) (Stream fed) = false
is_body_for (Filter n) (Rule rule) = true

abbrev pub is_stream : NodeBody → Bool
is_stream (Stream fed) = true
is_stream (Rule rule) = false
