use Rattle.std.proofs.Common.{◌∙◌, ap, ℕ}
use Rattle.std.specs.Prelude.{◌==◌, bit_and}
use Rattle.route_filter.proofs.Sets.{contains-kind}
use Rattle.route_filter.proofs.rule_args.RuleArgs.has_kind.Goals as goal

pub returns : goal.returns
returns c =
    let set = c.args.self.now.kinds.0 in
    c.contains.ensures tt ∙ ap (λ (n : ℕ). bit_and set n == n) c.of.ensures ∙ contains-kind set c.args.kind
