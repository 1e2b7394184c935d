use Rattle.route_filter.proofs.Kept.{open-all}
use Rattle.route_filter.proofs.laws.open_rule_passes_all.Goals as goal

pub returns : goal.returns
returns c = open-all
