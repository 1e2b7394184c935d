use Rattle.std.proofs.Common.{◌∙◌, ap}
use Rattle.std.specs.Prelude.{is_some}
use Rattle.node_table.specs.declared.number.Addr.{Addr}
use Rattle.node_table.specs.Nodes.{node_at}
use Rattle.seq_clients.proofs.Seeing.{is_some-copied, port-there}
use Rattle.seq_clients.proofs.clients.Clients.has_port.Goals as goal

pub returns : goal.returns
returns c = c.is_some.ensures ∙ is_some-copied c.find.result ∙ ap is_some (c.find.ensures ∙ ap (λ (x : Addr). node_at c.self.inside.nodes x) c.port_addr.ensures) ∙ port-there c.self.inside.nodes c.self.inside.rows _ c.self.invariant c.self.view_is c.args.client c.args.port
