use Rattle.cell_pools.proofs.Rows.{row_changed}
use Rattle.cell_pools.proofs.clients.ClientTable.set_size.Goals as goal

pub returns : goal.returns
returns c = row_changed _ _ _ _ c.self.invariant c.self.view_is c.row_of.ensures.start c.row_of.ensures.small c.index-self-row_of.result _ (λ h. record h { size = c.args.size }) c.set_size.ensures
