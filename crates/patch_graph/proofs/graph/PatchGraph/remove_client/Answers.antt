use Rattle.std.proofs.Common.{◌≡◌, ◌-◌, ◌+◌, ◌*◌, ◌≤◌, ◌<◌, ap, subst, arith, ◌∙◌}
use Rattle.std.proofs.lemmas.Bool.{false≢true}
use Rattle.patch_graph.specs.Edges.{has_edge}
use Rattle.patch_graph.proofs.Removed.{IsCleared, cleared-start, cleared-more, cleared-end}
use Rattle.patch_graph.proofs.graph.PatchGraph.remove_client.Goals as goal
use Rattle.patch_graph.proofs.graph.PatchGraph.remove_client.Goals.{in-Some, in_default}

pub loop-place-init : goal.loop-place-init
loop-place-init c = cleared-start _ _ _ _ (omega (arith, c.row_of-first.ensures.start))

pub loop-place-preserved : goal.loop-place-preserved
loop-place-preserved c = elim c.match-addr_at.branch [
  | in-Some w ↦ let row : c.args.client ≡ 128 + (c.args.client - 128) = omega (arith, c.row_of-first.ensures.start) in
      let low : (c.args.client - 128) * 32 ≤ c.loop-place.place = omega (arith, c.row_of-first.ensures.start) in
      let high : c.loop-place.place < (c.args.client - 128) * 32 + 32 = omega (arith, c.row_of-first.ensures.start) in
      cleared-more _ _ _ _ _ _ _ _ _ row c.loop-place.invariant w.in-Some.ensures.place.1 low high (omega arith) (w.self-is ∙ w.remove_node.ensures)
  | in_default w ↦ absurd (false≢true (w.in_default.ensures.there.1 (omega (arith, c.row_of-first.ensures.start, c.row_of-first.ensures.small))))
]

pub returns : goal.returns
returns c =
    let row : c.args.client ≡ 128 + (c.args.client - 128) = omega (arith, c.row_of-first.ensures.start) in
    let end : c.loop-place.place ≡ (c.args.client - 128) * 32 + 32 = omega (arith, c.row_of-first.ensures.start) in
    cleared-end _ _ _ _ row (subst (λ n. IsCleared c.args.client (c.args.client - 128) n c.args.self.now c.loop-place.self) end c.loop-place.invariant)
    (λ e h. c.self.invariant.placed e (ap (λ es. has_edge es e.source e.target) c.self.view_is ∙ h))
