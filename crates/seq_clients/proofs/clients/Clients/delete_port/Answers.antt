use Rattle.std.proofs.Common.{◌∙◌, ap, sym, subst}
use Rattle.node_table.specs.declared.number.Addr.{Addr}
use Rattle.node_table.specs.Nodes.{without_node}
use Rattle.node_table.specs.declared.number.Node.TheVariants.{Port}
use Rattle.seq_clients.specs.Kept.{Nodes, roster, AreRowsKept}
use Rattle.seq_clients.proofs.Changing.{port-dropped, dropped-kept}
use Rattle.seq_clients.proofs.clients.Clients.delete_port.Goals as goal

pub invariant_of-self : goal.invariant_of-self
invariant_of-self c =
    subst (λ (n : Nodes). AreRowsKept n c.self.inside.rows) (sym (c.delete.ensures.deleted ∙ ap (λ (x : Addr). without_node c.self.inside.nodes x) c.port_addr.ensures))
    (dropped-kept c.self.inside.nodes c.self.inside.rows _ c.self.invariant c.self.view_is c.args.client (Port c.args.port))

pub returns : goal.returns
returns c =
    ap (λ (n : Nodes). roster n c.self.inside.rows) (c.delete.ensures.deleted ∙ ap (λ (x : Addr). without_node c.self.inside.nodes x) c.port_addr.ensures)
    ∙ port-dropped c.self.inside.nodes c.self.inside.rows _ c.self.invariant c.self.view_is c.args.client c.args.port
