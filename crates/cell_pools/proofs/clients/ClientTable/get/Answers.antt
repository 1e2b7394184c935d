use Rattle.cell_pools.proofs.Rows.{row_is}
use Rattle.cell_pools.proofs.clients.ClientTable.get.Goals as goal

pub returns-clause-value : goal.returns-clause-value
returns-clause-value c = row_is _ _ _ _ c.self.invariant c.self.view_is c.row_of.ensures.start c.row_of.ensures.small _
