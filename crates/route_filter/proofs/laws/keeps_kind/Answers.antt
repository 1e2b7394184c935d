use Rattle.route_filter.proofs.Kept.{keeps-kind}
use Rattle.route_filter.proofs.laws.keeps_kind.Goals as goal

pub returns-clause-kept : goal.returns-clause-kept
returns-clause-kept c = keeps-kind
