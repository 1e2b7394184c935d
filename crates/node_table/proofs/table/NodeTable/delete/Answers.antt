use Rattle.std.proofs.Common.{◌∙◌, ap, sym, Some}
use Rattle.std.specs.Option.{option_map}
use Rattle.node_table.proofs.Places.{key_within, drop-kept}
use Rattle.node_table.proofs.Tables.{there, no_node, without_it, deleted}
use Rattle.node_table.proofs.table.NodeTable.delete.Goals as goal

pub returns-in_err-key-clause-body : goal.returns-in_err-key-clause-body
returns-in_err-key-clause-body g c =
    c.from_residual.ensures ∙ ap (option_map (λ n. n.body)) (sym (no_node _ _ _ _ _ c.self.invariant c.self.view_is _ _ _ c.place_of-place.ensures.place.1 (rw c.deref.ensures.value at (sym c.in_err-key.ensures))))

pub returns-in_err-key-clause-deleted : goal.returns-in_err-key-clause-deleted
returns-in_err-key-clause-deleted g c =
    without_it _ _ _ _ _ c.self.invariant c.self.view_is _ _ _ c.place_of-place.ensures.place.1 (no_node _ _ _ _ _ c.self.invariant c.self.view_is _ _ _ c.place_of-place.ensures.place.1 (rw c.deref.ensures.value at (sym c.in_err-key.ensures)))

pub invariant_of-self : goal.invariant_of-self
invariant_of-self g c =
    let was = rw c.deref.ensures.value at (sym c.in_ok-key.ensures) in
    drop-kept _ _ _ _ c.self.invariant _ _ (key_within _ _ _ was) was c.remove.ensures.updates.others c.remove.ensures.updates.changed

pub returns-clause-body : goal.returns-clause-body
returns-clause-body g c =
    ap Some c.into_body.ensures ∙ ap (option_map (λ n. n.body)) (sym (there _ _ _ _ _ c.self.invariant c.self.view_is _ _ _ c.place_of-place.ensures.place.1 _ (rw c.deref.ensures.value at (sym c.in_ok-key.ensures)) ∙ c.remove.ensures.value))

pub returns-clause-deleted : goal.returns-clause-deleted
returns-clause-deleted g c = deleted _ _ _ _ _ c.self.invariant c.self.view_is _ _ _ c.place_of-place.ensures.place.1 _ _ (rw c.deref.ensures.value at (sym c.in_ok-key.ensures)) c.remove.ensures.updates.others
