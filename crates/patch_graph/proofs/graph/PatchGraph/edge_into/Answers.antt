use Rattle.std.proofs.Common.{◌≡◌, ◌-◌, ◌+◌, ◌*◌, ap, sym, subst, arith, ◌∙◌}
use Rattle.std.specs.Option.{option_copied}
use Rattle.std.proofs.lemmas.Bool.{false≢true}
use Rattle.patch_graph.specs.Edges.{has_edge}
use Rattle.patch_graph.proofs.Removed.{IsEndless, endless-start, endless-more, endless-end, last_origin, no_last}
use Rattle.patch_graph.proofs.graph.PatchGraph.edge_into.Goals as goal
use Rattle.patch_graph.proofs.graph.PatchGraph.edge_into.Goals.{in-Some+in_default-last, in_default}

pub loop-place-init : goal.loop-place-init
loop-place-init c = endless-start _ _ _ (omega (arith, c.row_of-start.ensures.start))

pub loop-place-preserved : goal.loop-place-preserved
loop-place-preserved c = elim c.match-addr_at.branch [
  | in-Some+in_default-last w ↦ endless-more _ _ _ _ _ _ c.loop-place.invariant w.in-Some.ensures.place.1 (sym w.origins.ensures ∙ no_last w.origins.result.now (sym w.last.ensures.value ∙ ap option_copied w.in_default-last.is)) (omega arith)
  | in_default w ↦ absurd (false≢true (w.in_default.ensures.there.1 (omega (arith, c.row_of-start.ensures.start, c.row_of-start.ensures.small))))
]

pub returns-in-Some-last-clause-there : goal.returns-in-Some-last-clause-there
returns-in-Some-last-clause-there c =
    last_origin c.args.self.now c.in-Some.target c.in-Some-last.source.now c.origins.result.now c.origins.ensures (sym c.last.ensures.value ∙ ap option_copied c.in-Some-last.is)

pub returns-clause-none : goal.returns-clause-none
returns-clause-none c =
    let row : c.args.client ≡ 128 + (c.args.client - 128) = omega (arith, c.row_of-start.ensures.start) in
    let end : c.loop-place.place ≡ (c.args.client - 128) * 32 + 32 = omega (arith, c.row_of-start.ensures.start) in
    endless-end _ _ _ row (subst (λ n. IsEndless (c.args.client - 128) n c.args.self.now) end c.loop-place.invariant)
    (λ e h. c.self.invariant.placed e (ap (λ es. has_edge es e.source e.target) c.self.view_is ∙ h))
