use Rattle.std.proofs.Common.{arith}
use Rattle.std.proofs.lemmas.Grind.{common_steps}
use Rattle.node_table.proofs.Places.{table_length}
use Rattle.patch_graph.proofs.Made.{filled_up}
use Rattle.patch_graph.proofs.graph.make_lists.Goals as goal

pub returns-clause-same : goal.returns-clause-same
returns-clause-same c = filled_up _ (λ f v g call. grind (arith, common_steps)) _ _ _ _ (table_length _ c.requires) c.in_ok-resize_with.ensures.items
