use Rattle.std.proofs.Common.{◌∙◌, ℕ, List, ap}
use Rattle.node_table.specs.Nodes.{with_node}
use Rattle.node_table.proofs.Places.{read-kept}
use Rattle.node_table.proofs.Tables.{read_is, open_row, no_key, created, created-kept}
use Rattle.node_table.proofs.table.NodeTable.add_node.Goals as goal

pub invariant_of-self-in-Ok-insert : goal.invariant_of-self-in-Ok-insert
invariant_of-self-in-Ok-insert g c =
    let at = c.place_of.ensures.place.1 in
    let kept = read-kept _ _ _ _ c.self.invariant (λ _. c.in-Ok.ensures.whole) c.make_places.ensures.same in
    let view = read_is _ _ _ _ _ c.self.invariant c.self.view_is _ c.make_places.ensures.same in
    created-kept _ _ _ _ _ kept view _ _ _ at c.in-Ok.ensures.whole _ _ _ (open_row _ _ _ _ _ kept view _ _ at.client at.below c.requires.open)
    (no_key _ _ _ _ _ kept view _ _ _ at c.requires.fresh)
    c.in-Ok-insert.ensures.was_vacant c.in-Ok-insert.ensures.updates.changed c.in-Ok-insert.ensures.updates.others

pub returns-in-Ok-insert-clause-ok : goal.returns-in-Ok-insert-clause-ok
returns-in-Ok-insert-clause-ok g c =
    let at = c.place_of.ensures.place.1 in
    let kept = read-kept _ _ _ _ c.self.invariant (λ _. c.in-Ok.ensures.whole) c.make_places.ensures.same in
    let view = read_is _ _ _ _ _ c.self.invariant c.self.view_is _ c.make_places.ensures.same in
    created _ _ _ _ _ kept view _ _ _ at c.in-Ok.ensures.whole _ _ _ (open_row _ _ _ _ _ kept view _ _ at.client at.below c.requires.open)
    c.in-Ok-insert.ensures.was_vacant c.in-Ok-insert.ensures.updates.changed c.in-Ok-insert.ensures.updates.others
    ∙ ap (with_node c.args.self.now c.args.addr) (c.new.ensures ∙ ap (λ (n : List ℕ). record { name = n; caps = c.args.caps; body = c.args.body }) c.in-Ok-from_slice.ensures.items)
