use Rattle.std.proofs.Common.{◌<◌, ◌∷◌, [], ap, sym, arith, ◌∙◌}
use Rattle.std.specs.List.{list_any}
use Rattle.node_table.specs.Addresses.{same}
use Rattle.patch_graph.specs.Found.{with_filters}
use Rattle.patch_graph.proofs.Marks.{port-marked, room, added, found-added}
use Rattle.patch_graph.proofs.found.Found.mark.Goals as goal

pub offset_bounds-self-inside-self-inside : goal.offset_bounds-self-inside-self-inside
offset_bounds-self-inside-self-inside c =
    let h : c.self.inside.count < 2048 = room _ _ _ c.self.invariant _ _ _ c.requires.place.1 (sym c.is_filter.ensures ∙ c.if-is_filter.true) (ap (list_any (same c.args.node.now)) c.self.view_is ∙ c.requires.fresh (sym c.is_filter.ensures ∙ c.if-is_filter.true)) in omega arith

pub bounds-self-inside-self-inside : goal.bounds-self-inside-self-inside
bounds-self-inside-self-inside c = room _ _ _ c.self.invariant _ _ _ c.requires.place.1 (sym c.is_filter.ensures ∙ c.if-is_filter.true) (ap (list_any (same c.args.node.now)) c.self.view_is ∙ c.requires.fresh (sym c.is_filter.ensures ∙ c.if-is_filter.true))

pub overflow_add-self : goal.overflow_add-self
overflow_add-self c =
    let h : c.self.inside.count < 2048 = room _ _ _ c.self.invariant _ _ _ c.requires.place.1 (sym c.is_filter.ensures ∙ c.if-is_filter.true) (ap (list_any (same c.args.node.now)) c.self.view_is ∙ c.requires.fresh (sym c.is_filter.ensures ∙ c.if-is_filter.true)) in omega arith

pub invariant_of-self : goal.invariant_of-self
invariant_of-self c = found-added _ _ _ c.self.invariant _ _ _ c.requires.place.1 (sym c.is_filter.ensures ∙ c.if-is_filter.true) (ap (list_any (same c.args.node.now)) c.self.view_is ∙ c.requires.fresh (sym c.is_filter.ensures ∙ c.if-is_filter.true))

pub invariant_of-self-else-is_filter : goal.invariant_of-self-else-is_filter
invariant_of-self-else-is_filter c = port-marked _ _ _ c.self.invariant _ _ _ c.requires.place.1 (sym c.is_filter.ensures ∙ c.if-is_filter.false)

pub returns-then-is_filter : goal.returns-then-is_filter
returns-then-is_filter c =
    added _ _ _ c.self.invariant _ _ _ c.requires.place.1 (sym c.is_filter.ensures ∙ c.if-is_filter.true) (ap (list_any (same c.args.node.now)) c.self.view_is ∙ c.requires.fresh (sym c.is_filter.ensures ∙ c.if-is_filter.true))
    ∙ ap (λ xs. with_filters xs (c.args.node.now ∷ [])) c.self.view_is
