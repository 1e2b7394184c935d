use Rattle.std.proofs.Common.{◌∙◌, ap, Some}
use Rattle.std.specs.Option.{option_map}
use Rattle.node_table.specs.declared.number.Addr.{Addr}
use Rattle.node_table.specs.Nodes.{node_at}
use Rattle.seq_clients.proofs.Seeing.{port-named}
use Rattle.seq_clients.proofs.clients.Clients.port_name.Goals as goal

pub returns-in-Some : goal.returns-in-Some
returns-in-Some c =
    ap Some c.name.ensures ∙ ap (option_map (λ n. n.name)) (c.in-Some.ensures ∙ ap (λ (x : Addr). node_at c.self.inside.nodes x) c.port_addr.ensures)
    ∙ port-named c.self.inside.nodes c.self.inside.rows _ c.self.invariant c.self.view_is c.args.client c.args.port

pub returns-in-None : goal.returns-in-None
returns-in-None c =
    ap (option_map (λ n. n.name)) (c.in-None.ensures ∙ ap (λ (x : Addr). node_at c.self.inside.nodes x) c.port_addr.ensures)
    ∙ port-named c.self.inside.nodes c.self.inside.rows _ c.self.invariant c.self.view_is c.args.client c.args.port
