use Rattle.std.proofs.Common.{ap, ◌∙◌}
use Rattle.patch_graph.specs.Index.{targets_of}
use Rattle.patch_graph.proofs.Indexed.{nodes_onward}
use Rattle.patch_graph.proofs.graph.PatchGraph.targets.Goals as goal

pub returns : goal.returns
returns c =
    let there = rw c.deref.ensures.value at c.nodes_at.ensures in
    there.3 ∙ nodes_onward _ _ _ _ _ c.self.invariant _ _ _ there.2 ∙ ap (λ es. targets_of es c.args.source.now) c.self.view_is
