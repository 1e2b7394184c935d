use Rattle.std.proofs.Common.{ap, ◌∙◌}
use Rattle.std.specs.List.{list_any}
use Rattle.node_table.specs.Addresses.{same}
use Rattle.patch_graph.proofs.found.Found.contains.Goals as goal

pub returns : goal.returns
returns c = c.self.invariant.by_place _ _ _ c.place_of.ensures.place.1 c.requires ∙ ap (list_any (same c.args.node.now)) c.self.view_is
