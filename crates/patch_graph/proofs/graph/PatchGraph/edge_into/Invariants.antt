use Rattle.std.proofs.Common.{◌-◌}
use Rattle.patch_graph.proofs.Removed.{IsEndless}
use Rattle.patch_graph.proofs.graph.PatchGraph.edge_into.Given as goal

abbrev pub invariant-loop-place : goal.invariant-loop-place
invariant-loop-place l = IsEndless (l.fn.client - 128) l.place l.fn.self
