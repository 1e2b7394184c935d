use Rattle.std.proofs.Common.{◌≡◌, ◌++◌, take}
use Rattle.patch_graph.proofs.links.Links.copy_to.Given as goal

abbrev pub invariant-loop-place : goal.invariant-loop-place
invariant-loop-place l = l.links.items ≡ l.fn.links.items ++ take l.place l.self
