use Rattle.std.proofs.Common.{◌∙◌}
use Rattle.seq_clients.proofs.Seeing.{open-client}
use Rattle.seq_clients.proofs.clients.Clients.is_open.Goals as goal

pub returns : goal.returns
returns c = c.is_open.ensures ∙ open-client c.self.inside.nodes c.self.inside.rows _ c.self.invariant c.self.view_is c.args.client
