use Rattle.std.proofs.Common.{◌∙◌}
use Rattle.seq_clients.proofs.Seeing.{client-name}
use Rattle.seq_clients.proofs.clients.Clients.name.Goals as goal

pub returns : goal.returns
returns c = c.client_name.ensures ∙ client-name c.self.inside.nodes c.self.inside.rows _ c.self.invariant c.self.view_is c.args.client
