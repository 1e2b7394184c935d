use Rattle.std.proofs.Common.{◌-◌}
use Rattle.patch_graph.proofs.Removed.{IsCleared}
use Rattle.patch_graph.proofs.graph.PatchGraph.remove_client.Given as goal

abbrev pub invariant-loop-place : goal.invariant-loop-place
invariant-loop-place l = IsCleared l.fn.client (l.fn.client - 128) l.place l.fn.self l.self
