use Rattle.std.proofs.Common.{◌∙◌, sym}
use Rattle.node_table.proofs.Tables.{there, no_node}
use Rattle.node_table.proofs.table.NodeTable.find.Goals as goal

pub returns-in-Some : goal.returns-in-Some
returns-in-Some g c = c.get.ensures ∙ sym (there _ _ _ _ _ c.self.invariant c.self.view_is _ _ _ c.place_of.ensures.place.1 _ (rw c.deref.ensures.value at (sym c.in-Some.ensures)))

pub returns-in-None : goal.returns-in-None
returns-in-None g c = sym (no_node _ _ _ _ _ c.self.invariant c.self.view_is _ _ _ c.place_of.ensures.place.1 (rw c.deref.ensures.value at (sym c.in-None.ensures)))
