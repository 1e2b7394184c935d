use Rattle.std.proofs.Common.{◌∙◌}
use Rattle.node_table.proofs.Tables.{open_is}
use Rattle.node_table.proofs.table.NodeTable.is_open.Goals as goal

pub returns : goal.returns
returns g c = c.is_some.ensures ∙ open_is _ _ _ _ _ c.self.invariant c.self.view_is _ _ _ c.row_of.ensures.start c.row_of.ensures.small
