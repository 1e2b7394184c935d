use Rattle.std.proofs.Common.{◌∙◌}
use Rattle.patch_graph.proofs.Ended.{path_whole}
use Rattle.patch_graph.proofs.route.Route.to_path.Goals as goal

pub returns : goal.returns
returns c = path_whole _ _ _ _ _ _ c.filters.ensures.front.1 c.last.ensures.1 (c.new.ensures ∙ c.in_ok-from_slice.ensures.items)
