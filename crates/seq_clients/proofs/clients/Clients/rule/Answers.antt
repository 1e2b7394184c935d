use Rattle.std.proofs.Common.{◌∙◌, ap}
use Rattle.node_table.specs.declared.number.Addr.{Addr}
use Rattle.node_table.specs.Nodes.{node_at}
use Rattle.seq_clients.specs.Bodies.{rule_in}
use Rattle.seq_clients.proofs.Seeing.{rule-there, no-rule}
use Rattle.seq_clients.proofs.clients.Clients.rule.Goals as goal

pub returns-in-Some : goal.returns-in-Some
returns-in-Some c =
    c.rule.ensures ∙ ap rule_in c.body.ensures
    ∙ rule-there c.self.inside.nodes c.self.inside.rows _ c.self.invariant c.self.view_is c.args.client c.args.filter _ (c.in-Some.ensures ∙ ap (λ (x : Addr). node_at c.self.inside.nodes x) c.filter_addr.ensures)

pub returns-in-None : goal.returns-in-None
returns-in-None c = no-rule c.self.inside.nodes c.self.inside.rows _ c.self.invariant c.self.view_is c.args.client c.args.filter (c.in-None.ensures ∙ ap (λ (x : Addr). node_at c.self.inside.nodes x) c.filter_addr.ensures)
