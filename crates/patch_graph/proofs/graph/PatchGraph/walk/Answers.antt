use Rattle.std.proofs.Common.{◌++◌, ap, sym, ◌∙◌}
use Rattle.std.specs.List.{filter_map}
use Rattle.patch_graph.specs.Cursor.{path_from}
use Rattle.patch_graph.proofs.Walked.{routes-paths}
use Rattle.patch_graph.proofs.graph.PatchGraph.walk.Goals as goal

pub loop-route-init : goal.loop-route-init
loop-route-init c = sym (routes-paths c.args.self.now c.args.from.now) ∙ ap (filter_map path_from) (sym c.routes-routes.ensures) ∙ ap (λ ps. ps ++ filter_map path_from c.routes-routes.result) (sym c.new-paths.ensures.items)
