use Rattle.std.proofs.Common.{◌∙◌, ℕ, List, Some, ap, sym, subst, refl}
use Rattle.node_table.specs.declared.number.Addr.{Addr}
use Rattle.node_table.specs.Nodes.{node_seen, with_node, is_open}
use Rattle.node_table.specs.declared.number.Node.TheVariants.{Port}
use Rattle.std.specs.FinMap.{get}
use Rattle.seq_state.specs.Effect.{with_change, put_port}
use Rattle.seq_clients.specs.Roster.{with_client}
use Rattle.seq_clients.specs.declared.body.NodeBody.TheVariants.{Stream}
use Rattle.seq_clients.specs.Kept.{Nodes, roster, AreRowsKept}
use Rattle.seq_clients.proofs.Changing.{is-open, port-free, port-made, made-kept}
use Rattle.seq_clients.proofs.clients.Clients.create_port.Goals as goal

pub add_node-requires-clause-open : goal.add_node-requires-clause-open
add_node-requires-clause-open c =
    ap (λ (x : Addr). is_open c.self.inside.nodes x.client) c.port_addr.ensures ∙ is-open c.self.inside.nodes c.self.inside.rows _ c.self.invariant c.self.view_is c.args.client c.requires.open

pub add_node-requires-clause-fresh : goal.add_node-requires-clause-fresh
add_node-requires-clause-fresh c = port-free c.self.inside.nodes c.self.inside.rows _ c.self.invariant c.self.view_is c.args.client c.args.port _ c.port_addr.ensures c.requires.free

pub invariant_of-self-2 : goal.invariant_of-self-2
invariant_of-self-2 c =
    subst (λ (n : Nodes). AreRowsKept n c.self.inside.rows) (sym (c.in_ok-add_node.ensures.ok ∙ ap (λ (x : Addr). with_node c.self.inside.nodes x (node_seen c.args.name.now c.args.caps (Stream c.new.result))) c.port_addr.ensures))
    (made-kept c.self.inside.nodes c.self.inside.rows _ c.self.invariant c.self.view_is c.args.client (Port c.args.port) (node_seen c.args.name.now c.args.caps (Stream c.new.result)) refl)

pub returns-clause-ok : goal.returns-clause-ok
returns-clause-ok c =
    ap (λ (n : Nodes). roster n c.self.inside.rows) (c.in_ok-add_node.ensures.ok ∙ ap (λ (x : Addr). with_node c.self.inside.nodes x (node_seen c.args.name.now c.args.caps (Stream c.new.result))) c.port_addr.ensures)
    ∙ port-made c.self.inside.nodes c.self.inside.rows _ c.self.invariant c.self.view_is c.args.client c.args.port (node_seen c.args.name.now c.args.caps (Stream c.new.result))
    ∙ ap (λ (b : List ℕ). with_client c.args.self.now c.args.client (with_change (get c.args.self.now.clients c.args.client) (put_port c.args.port (Some (record { name = c.args.name.now; caps = c.args.caps; fed = b }))))) c.new.ensures
