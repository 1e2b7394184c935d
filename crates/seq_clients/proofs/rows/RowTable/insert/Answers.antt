use Rattle.std.proofs.Common.{refl}
use Rattle.std.specs.Option.{option_map}
use Rattle.seq_clients.proofs.Arrays.{inserted}
use Rattle.seq_clients.proofs.rows.RowTable.insert.Goals as goal

pub returns : goal.returns
returns c = inserted (option_map (λ b. b.value)) 128 64 _ _ c.self.view_is c.self.invariant _ _ c.row_of.ensures.start c.row_of.ensures.small _ _ refl
