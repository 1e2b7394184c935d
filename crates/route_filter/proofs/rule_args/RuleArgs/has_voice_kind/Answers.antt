use Rattle.std.proofs.Common.{ap, nat_eq, bit_and, ℕ, not}
use Rattle.route_filter.proofs.Statuses.{bit-by-status}
use Rattle.route_filter.proofs.rule_args.RuleArgs.has_voice_kind.Goals as goal

pub returns : goal.returns
returns c = ap (λ (n : ℕ). not (nat_eq (bit_and c.args.self.now.kinds.0 n) 0)) (bit-by-status c.args.status c.requires.least c.requires.most)
