use Rattle.std.proofs.Common.{◌≡◌, take}
use Rattle.patch_graph.specs.Aged.{all_of}
use Rattle.patch_graph.proofs.graph.by_age.Given as goal

abbrev pub invariant-loop-list : goal.invariant-loop-list
invariant-loop-list l = l.links.items ≡ all_of (take l.list-index l.lists)
