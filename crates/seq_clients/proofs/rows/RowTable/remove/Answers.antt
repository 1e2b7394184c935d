use Rattle.std.proofs.Common.{◌∙◌, ap}
use Rattle.std.specs.Option.{option_map}
use Rattle.seq_clients.proofs.Arrays.{get_at, removed}
use Rattle.seq_clients.proofs.rows.RowTable.remove.Goals as goal

pub returns-clause-value : goal.returns-clause-value
returns-clause-value c =
    ap (option_map (λ b. b.value)) c.take.ensures.value
    ∙ get_at (option_map (λ b. b.value)) 128 64 _ _ c.self.view_is c.self.invariant _ _ c.row_of.ensures.start c.row_of.ensures.small _

pub returns-clause-left : goal.returns-clause-left
returns-clause-left c = removed (option_map (λ b. b.value)) 128 64 _ _ c.self.view_is c.self.invariant _ _ c.row_of.ensures.start c.row_of.ensures.small _ (ap (option_map (λ b. b.value)) c.take.ensures.after)
