use Rattle.std.proofs.Common.{◌∙◌, ap, sym, Some}
use Rattle.std.specs.Option.{option_map}
use Rattle.seq_clients.proofs.Arrays.{get_at}
use Rattle.seq_clients.proofs.rows.RowTable.get.Goals as goal

pub returns-in-Some : goal.returns-in-Some
returns-in-Some c =
    ap Some c.deref.ensures ∙ ap (option_map (λ b. b.value)) (sym c.in-Some.is)
    ∙ get_at (option_map (λ b. b.value)) 128 64 _ _ c.self.view_is c.self.invariant _ _ c.row_of.ensures.start c.row_of.ensures.small _

pub returns-in-None : goal.returns-in-None
returns-in-None c =
    ap (option_map (λ b. b.value)) (sym c.in-None.is)
    ∙ get_at (option_map (λ b. b.value)) 128 64 _ _ c.self.view_is c.self.invariant _ _ c.row_of.ensures.start c.row_of.ensures.small _
