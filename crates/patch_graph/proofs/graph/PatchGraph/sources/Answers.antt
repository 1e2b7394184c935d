use Rattle.std.proofs.Common.{◌≡◌, ◌≤◌, length, ap, sym, subst, ◌∙◌}
use Rattle.std.proofs.lemmas.List.{length-map}
use Rattle.patch_graph.specs.Edges.{sources_of, most_sources}
use Rattle.patch_graph.specs.Aged.{aged_edges, edges_of}
use Rattle.patch_graph.proofs.Indexed.{nodes_back}
use Rattle.patch_graph.proofs.graph.PatchGraph.sources.Goals as goal

pub returns : goal.returns
returns c =
    let there = rw c.deref.ensures.value at c.nodes_at.ensures in
    let is : length c.nodes_at.result.now ≡ sources_of (edges_of (aged_edges c.self.inside.targets.items c.self.inside.sources.items)) c.args.target.now = ap length (there.3 ∙ nodes_back _ _ _ _ _ c.self.invariant _ _ _ there.2) ∙ length-map _ (λ e. e.source) in
    record {
      count = is ∙ ap (λ es. sources_of es c.args.target.now) c.self.view_is;
      few = subst (λ n. n ≤ most_sources) (sym is) (c.self.invariant.graph.few _);
    }
