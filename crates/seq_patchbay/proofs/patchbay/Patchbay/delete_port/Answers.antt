use Rattle.std.proofs.Common.{ap, sym, subst, ◌∙◌}
use Rattle.std.specs.List.{list_any}
use Rattle.node_table.specs.Addresses.{same}
use Rattle.seq_state.specs.Step.{port_addr}
use Rattle.seq_clients.specs.Roster.{Roster}
use Rattle.seq_sending.specs.Table.{AreWaysKept}
use Rattle.seq_patchbay.specs.Network.{Network}
use Rattle.seq_patchbay.proofs.Gone.{but-node-gone}
use Rattle.seq_patchbay.proofs.patchbay.Patchbay.delete_port.Goals as goal

pub invariant_of-self : goal.invariant_of-self
invariant_of-self c =
    let s = c.self.inside in
    let ways = c.forget_client.new.self in
    subst (λ es. AreWaysKept c.delete_port.new.self.clients es ways) (sym c.remove_node.ensures)
    (c.forget_client.ensures s.clients.clients c.delete_port.new.self.clients s.graph _
    (but-node-gone s.clients.clients _ s.graph (port_addr c.args.client c.args.port) _ (ap (λ (r : Roster). r.clients) c.delete_port.ensures) (ap (λ (n : Network). list_any (λ e. same (port_addr c.args.client c.args.port) e.target) n.graph) c.self.view_is ∙ c.end_into.ensures.none)) c.self.invariant)
