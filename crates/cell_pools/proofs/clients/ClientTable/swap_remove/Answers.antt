use Rattle.std.proofs.Common.{◌<◌, length, sym, subst}
use Rattle.std.specs.List.{swap_remove}
use Rattle.cell_pools.specs.Cells.{Holding}
use Rattle.cell_pools.proofs.Rows.{row_is, row_changed}
use Rattle.cell_pools.proofs.clients.ClientTable.swap_remove.Goals as goal

pub swap_remove-requires : goal.swap_remove-requires
swap_remove-requires c = subst (λ (h : Holding). c.args.index < length h.keys) (sym (row_is _ _ _ _ c.self.invariant c.self.view_is c.row_of.ensures.start c.row_of.ensures.small _)) c.requires

pub returns : goal.returns
returns c = row_changed _ _ _ _ c.self.invariant c.self.view_is c.row_of.ensures.start c.row_of.ensures.small c.index-self-row_of.result _ (λ h. record h { keys = swap_remove h.keys c.args.index 0 }) c.swap_remove.ensures
