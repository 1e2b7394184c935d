use Rattle.std.proofs.Common.{[], ap}
use Rattle.patch_graph.specs.Aged.{edges_of}
use Rattle.patch_graph.proofs.Indexed.{none_aged}
use Rattle.patch_graph.proofs.Gathered.{aged-is, closed}
use Rattle.patch_graph.proofs.graph.PatchGraph.new.Goals as goal

pub invariant_of-result : goal.invariant_of-result
invariant_of-result c = closed [] _ _ 0 0 (none_aged _ _ c.new.ensures.items c.new-2.ensures.items)

pub returns : goal.returns
returns c = ap edges_of (aged-is [] _ _ 0 0 (none_aged _ _ c.new.ensures.items c.new-2.ensures.items))
