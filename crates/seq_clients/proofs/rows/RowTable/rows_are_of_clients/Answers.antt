use Rattle.std.proofs.Common.{◌∙◌, ap, sym, inl, inr}
use Rattle.std.specs.FinMap
use Rattle.node_table.proofs.Numbered.{get-below, get-above}
use Rattle.seq_clients.proofs.rows.RowTable.rows_are_of_clients.Goals as goal

pub returns : goal.returns
returns c = λ n beyond. ap (λ m. FinMap.get m n) (sym c.self.view_is) ∙ elim beyond [
  | inl below ↦ get-below 128 64 n _ below
  | inr above ↦ get-above 128 64 n _ above
]
