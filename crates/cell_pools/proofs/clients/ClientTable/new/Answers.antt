use Rattle.cell_pools.proofs.Rows.{no_rows}
use Rattle.cell_pools.proofs.clients.ClientTable.new.Goals as goal

pub returns : goal.returns
returns c = no_rows _ c.empty_rows.ensures.none
