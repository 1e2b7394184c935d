use Rattle.std.proofs.Common.{ap, ◌∙◌}
use Rattle.patch_graph.specs.Index.{origins_of}
use Rattle.patch_graph.proofs.Indexed.{nodes_back}
use Rattle.patch_graph.proofs.graph.PatchGraph.origins.Goals as goal

pub returns : goal.returns
returns c =
    let there = rw c.deref.ensures.value at c.nodes_at.ensures in
    there.3 ∙ nodes_back _ _ _ _ _ c.self.invariant _ _ _ there.2 ∙ ap (λ es. origins_of es c.args.target.now) c.self.view_is
