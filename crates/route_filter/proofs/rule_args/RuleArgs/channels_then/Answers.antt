use Rattle.std.proofs.Common.{◌∙◌, ap, sym, ℕ}
use Rattle.std.specs.Prelude.{Option, ◌&&◌, unwrap_or}
use Rattle.route_filter.specs.Rules.{has_channel}
use Rattle.route_filter.proofs.Sets.{both-channels}
use Rattle.route_filter.proofs.rule_args.RuleArgs.channels_then.Goals as goal

pub returns-in_default : goal.returns-in_default
returns-in_default c = λ n l.
    let mask = c.args.self.now.channels in
    let next = c.args.next.now.channels in
    both-channels mask next n ∙ ap (λ (o : Option ℕ). has_channel mask n && has_channel next (unwrap_or o n)) (sym c.in_default.is)
