use Rattle.std.proofs.Common.{◌∙◌, [], ap, sym, subst, refl}
use Rattle.node_table.specs.declared.number.Addr.{Addr}
use Rattle.node_table.specs.Nodes.{node_seen, with_node, is_open}
use Rattle.node_table.specs.declared.number.Node.TheVariants.{Filter}
use Rattle.seq_clients.specs.declared.body.NodeBody.TheVariants.{Rule}
use Rattle.seq_clients.specs.Kept.{Nodes, roster, AreRowsKept}
use Rattle.seq_clients.proofs.Changing.{is-open, filter-free, filter-made, made-kept}
use Rattle.seq_clients.proofs.clients.Clients.create_filter.Goals as goal

pub add_node-requires-clause-open : goal.add_node-requires-clause-open
add_node-requires-clause-open c =
    ap (λ (x : Addr). is_open c.self.inside.nodes x.client) c.filter_addr.ensures ∙ is-open c.self.inside.nodes c.self.inside.rows _ c.self.invariant c.self.view_is c.args.client c.requires.open

pub add_node-requires-clause-fresh : goal.add_node-requires-clause-fresh
add_node-requires-clause-fresh c = filter-free c.self.inside.nodes c.self.inside.rows _ c.self.invariant c.self.view_is c.args.client c.args.filter _ c.filter_addr.ensures c.requires.free

pub invariant_of-self-2 : goal.invariant_of-self-2
invariant_of-self-2 c =
    subst (λ (n : Nodes). AreRowsKept n c.self.inside.rows) (sym (c.in_ok-add_node.ensures.ok ∙ ap (λ (x : Addr). with_node c.self.inside.nodes x (node_seen [] c.args.caps (Rule c.args.rule))) c.filter_addr.ensures))
    (made-kept c.self.inside.nodes c.self.inside.rows _ c.self.invariant c.self.view_is c.args.client (Filter c.args.filter) (node_seen [] c.args.caps (Rule c.args.rule)) refl)

pub returns-clause-ok : goal.returns-clause-ok
returns-clause-ok c =
    ap (λ (n : Nodes). roster n c.self.inside.rows) (c.in_ok-add_node.ensures.ok ∙ ap (λ (x : Addr). with_node c.self.inside.nodes x (node_seen [] c.args.caps (Rule c.args.rule))) c.filter_addr.ensures)
    ∙ filter-made c.self.inside.nodes c.self.inside.rows _ c.self.invariant c.self.view_is c.args.client c.args.filter (node_seen [] c.args.caps (Rule c.args.rule))
