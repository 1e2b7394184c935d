use Rattle.std.proofs.Common.{Bool, ap, ◌∙◌}
use Rattle.std.specs.List.{list_any}
use Rattle.node_table.specs.Addresses.{same}
use Rattle.node_table.specs.declared.number.Addr.{Addr}
use Rattle.patch_graph.proofs.Same.{addr_eq, same-sym}
use Rattle.patch_graph.proofs.Searched.{origins-in}
use Rattle.patch_graph.proofs.graph.PatchGraph.has_edge.Goals as goal

pub returns : goal.returns
returns c =
    let source = c.args.source.now in
    c.contains.ensures.value ∙ ap (λ (p : Addr → Bool). list_any p c.origins.result.now) (λ j y. (addr_eq y source ∙ same-sym y source) j)
    ∙ ap (list_any (same source)) c.origins.ensures ∙ origins-in c.args.self.now c.args.target.now source
