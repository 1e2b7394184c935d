use Rattle.std.proofs.Common.{◌-◌}
use Rattle.patch_graph.proofs.Searched.{IsSearch}
use Rattle.patch_graph.proofs.graph.PatchGraph.reaches.Given as goal

abbrev pub invariant-loop-place : goal.invariant-loop-place
invariant-loop-place l = IsSearch l.self l.to l.found l.turn

abbrev pub decreases-loop-place : goal.decreases-loop-place
decreases-loop-place l = 2048 - l.turn
