use Rattle.std.proofs.Common.{ap, ◌∙◌}
use Rattle.patch_graph.specs.Found.{addr_of, with_filters}
use Rattle.patch_graph.specs.Index.{origins_of}
use Rattle.patch_graph.proofs.Indexed.{nodes_back, told_back}
use Rattle.patch_graph.proofs.Marks.{addr_of-place}
use Rattle.patch_graph.proofs.graph.PatchGraph.find_filters.Goals as goal

pub find_at-requires : goal.find_at-requires
find_at-requires c = told_back _ _ _ _ _ c.self.invariant _ _ _ _ (addr_of-place c.args.place c.requires) c.deref.ensures.value

pub returns : goal.returns
returns c =
    let there = rw c.deref.ensures.value at c.find_at.ensures in
    there ∙ ap (with_filters c.args.found.now) (nodes_back _ _ _ _ _ c.self.invariant _ _ _ (addr_of-place c.args.place c.requires) ∙ ap (λ es. origins_of es (addr_of c.args.place)) c.self.view_is)
