use Rattle.route_filter.proofs.Kept.{passes-messages}
use Rattle.route_filter.proofs.laws.passes_messages.Goals as goal

pub returns : goal.returns
returns c = passes-messages
