use Rattle.std.proofs.Common.{◌+◌, ◌*◌, ◌∙◌, ap, sym, set, None, arith}
use Rattle.node_table.proofs.Clearing.{cleared-start, cleared-none, cleared-some, none_if_not}
use Rattle.node_table.proofs.Numbered.{remove_absent}
use Rattle.node_table.proofs.Places.{close-kept}
use Rattle.node_table.proofs.Tables.{closed_is, closed_get, shown}
use Rattle.node_table.proofs.table.NodeTable.close_client.Goals as goal
use Rattle.node_table.proofs.table.NodeTable.close_client.Goals.{in-Some, in_default}

pub returns-then-not-is_open-clause-closed : goal.returns-then-not-is_open-clause-closed
returns-then-not-is_open-clause-closed g c = sym (remove_absent _ _ (closed_get _ _ (sym c.is_open.ensures ∙ c.if-not-is_open.true)))

pub loop-place-init : goal.loop-place-init
loop-place-init g c = cleared-start _ _ _ _ c.self.invariant

pub remove-requires : goal.remove-requires
remove-requires g c = c.loop-place.invariant.kept.full _ _ (rw c.deref.ensures.value at (sym c.in-Some.ensures))

pub loop-place-preserved : goal.loop-place-preserved
loop-place-preserved g c = elim c.match-key_at.branch [
  | in-Some w ↦ rw w.self-inside-is (cleared-some _ _ _ _ _ _ _ _ _ _ c.loop-place.invariant c.loop-place.auto.place (rw c.deref.ensures.value at (sym w.in-Some.ensures)) w.remove.ensures.updates.changed w.remove.ensures.updates.others)
  | in_default w ↦ rw w.self-inside-is (cleared-none _ _ _ _ _ _ _ _ c.loop-place.invariant (none_if_not _ (λ k e. w.in_default.not-Some k (c.key_at.ensures ∙ rw c.deref.ensures.value e))))
]

pub invariant_of-self : goal.invariant_of-self
invariant_of-self g c =
    let h = c.loop-place.invariant in
    close-kept _ _ _ h.kept _ (omega (arith, h.kept.rows, c.row_of-row.ensures.small)) (λ p s. h.gone (c.row_of-row.result * 32 + p) (omega arith) (omega (arith, c.loop-place-test.false)))

pub returns-clause-closed : goal.returns-clause-closed
returns-clause-closed g c =
    let h = c.loop-place.invariant in
    ap (λ n. shown (λ v. v.items) (set n c.row_of-row.result None) c.loop-place.self-inside.keys.items c.loop-place.self-inside.nodes.slots) h.same
    ∙ closed_is _ _ _ _ _ c.self.invariant c.self.view_is _ _ _ _ c.row_of-row.ensures.start c.row_of-row.ensures.small h.low (λ i s. h.high i (omega (arith, c.loop-place.auto.place-end)))
