use Rattle.std.proofs.Common.{◌^◌, ◌+◌, ◌<◌, [], ◌∷◌, ◌++◌, length, sym, subst}
use Rattle.std.proofs.lemmas.Result.{on_ok_weaker}
use Rattle.cell_pools.specs.Cells.{Holding}
use Rattle.cell_pools.proofs.Rows.{row_is, row_changed}
use Rattle.cell_pools.proofs.clients.ClientTable.push.Goals as goal

pub push-requires : goal.push-requires
push-requires c = subst (λ (h : Holding). length h.keys + 1 < 2 ^ 32) (sym (row_is _ _ _ _ c.self.invariant c.self.view_is c.row_of.ensures.start c.row_of.ensures.small _)) c.requires

pub returns-clause-ok : goal.returns-clause-ok
returns-clause-ok c = on_ok_weaker c.push.result (λ e. row_changed _ _ _ _ c.self.invariant c.self.view_is c.row_of.ensures.start c.row_of.ensures.small c.index-self-row_of.result _ (λ h. record h { keys = h.keys ++ c.args.key ∷ [] }) e) c.push.ensures.ok
