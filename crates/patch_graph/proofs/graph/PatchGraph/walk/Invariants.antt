use Rattle.std.proofs.Common.{◌≡◌, ◌++◌, length}
use Rattle.std.specs.List.{filter_map}
use Rattle.patch_graph.specs.Paths.{paths, path_of}
use Rattle.patch_graph.specs.Cursor.{path_from}
use Rattle.patch_graph.proofs.graph.PatchGraph.walk.Given as goal

abbrev pub invariant-loop-route : goal.invariant-loop-route
invariant-loop-route l = filter_map path_of (paths l.self l.from) ≡ l.paths.items ++ filter_map path_from l.routes

abbrev pub decreases-loop-route : goal.decreases-loop-route
decreases-loop-route l = length l.routes
