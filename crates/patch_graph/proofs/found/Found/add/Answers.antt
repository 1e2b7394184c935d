use Rattle.std.proofs.Common.{◌∷◌, [], ap, sym, ◌∙◌}
use Rattle.std.specs.List.{list_any}
use Rattle.node_table.specs.Addresses.{same}
use Rattle.patch_graph.specs.Found.{with_filters}
use Rattle.patch_graph.proofs.Marks.{is_found, unchanged}
use Rattle.patch_graph.proofs.found.Found.add.Goals as goal

pub mark-requires-clause-fresh : goal.mark-requires-clause-fresh
mark-requires-clause-fresh c filter = ap (list_any (same c.args.node.now)) (sym c.self.view_is) ∙ is_found _ _ _ c.self.invariant _ _ _ _ c.requires.1 c.if-not-self-place.true filter

pub returns-else-not-self-place : goal.returns-else-not-self-place
returns-else-not-self-place c =
    sym c.self.view_is ∙ unchanged _ _ _ c.self.invariant _ _ _ c.requires.1 c.if-not-self-place.false ∙ ap (λ xs. with_filters xs (c.args.node.now ∷ [])) c.self.view_is
