use Rattle.std.proofs.Common.{◌∙◌, ℕ, List, ap}
use Rattle.std.specs.FinMap as map
use Rattle.node_table.specs.Nodes.{empty_client}
use Rattle.node_table.proofs.Tables.{closed_row, opened_is}
use Rattle.node_table.proofs.table.NodeTable.add_client.Goals as goal

pub returns-clause-ok : goal.returns-clause-ok
returns-clause-ok g c =
    opened_is _ _ _ _ _ c.self.invariant c.self.view_is _ _ _ c.row_of.ensures.start c.row_of.ensures.small (closed_row _ _ _ _ _ c.self.invariant c.self.view_is _ _ c.row_of.ensures.start c.row_of.ensures.small c.requires.fresh)
    ∙ ap (λ (n : List ℕ). map.insert c.args.self.now c.args.client (empty_client n)) c.in_ok-name.ensures.items
