use Rattle.route_filter.proofs.Kept.{gives-channel, system-stays}
use Rattle.route_filter.proofs.laws.gives_channel.Goals as goal

pub returns-clause-channel : goal.returns-clause-channel
returns-clause-channel c = gives-channel

pub returns-clause-system : goal.returns-clause-system
returns-clause-system c = system-stays
