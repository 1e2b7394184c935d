use Rattle.std.proofs.Common.{◌∙◌, ap, sym, Some}
use Rattle.std.specs.Option.{option_map}
use Rattle.node_table.proofs.Tables.{name_is}
use Rattle.node_table.proofs.table.NodeTable.client_name.Goals as goal

pub returns-in-Some : goal.returns-in-Some
returns-in-Some g c = ap Some c.as_slice.ensures.value ∙ ap (option_map (λ v. v.items)) (sym c.in-Some.is) ∙ name_is _ _ _ _ _ c.self.invariant c.self.view_is _ _ _ c.row_of.ensures.start c.row_of.ensures.small

pub returns-in-None : goal.returns-in-None
returns-in-None g c = ap (option_map (λ v. v.items)) (sym c.in-None.is) ∙ name_is _ _ _ _ _ c.self.invariant c.self.view_is _ _ _ c.row_of.ensures.start c.row_of.ensures.small
