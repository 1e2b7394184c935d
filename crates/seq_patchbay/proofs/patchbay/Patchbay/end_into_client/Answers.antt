use Rattle.std.proofs.Common.{◌≡◌, true, refl, sym, subst, ap, ◌∙◌}
use Rattle.patch_graph.specs.Edges.{has_edge}
use Rattle.seq_patchbay.specs.Network.{Network}
use Rattle.seq_state.specs.Step.{port_addr, filter_addr}
use Rattle.seq_patchbay.proofs.Gone.{IsAsBefore, before-start, before-node, before-edge, into-length}
use Rattle.seq_patchbay.proofs.patchbay.Patchbay.end_into_client.Goals as goal
use Rattle.seq_patchbay.proofs.patchbay.Patchbay.end_into_client.Goals.{in-Some, in_default, in-Some-new, in_default-new}

pub loop-number-init : goal.loop-number-init
loop-number-init c = before-start _ _

pub loop-number-preserved : goal.loop-number-preserved
loop-number-preserved c = elim c.match-new.branch [
  | in-Some w ↦ subst (IsAsBefore c.args.client c.args.self.now) (sym w.self-is) (before-node c.args.client _ c.loop-number.self _ (port_addr c.args.client w.in-Some.port) refl c.loop-number.invariant w.end_into.ensures.clients w.end_into.ensures.rest)
  | in_default w ↦ subst (IsAsBefore c.args.client c.args.self.now) (sym w.self-is) c.loop-number.invariant
]

pub loop-number-2-init : goal.loop-number-2-init
loop-number-2-init c = c.loop-number.invariant

pub loop-number-2-preserved : goal.loop-number-2-preserved
loop-number-2-preserved c = elim c.match-new-2.branch [
  | in-Some-new w ↦ subst (IsAsBefore c.args.client c.args.self.now) (sym w.self-is) (before-node c.args.client _ c.loop-number-2.self _ (filter_addr c.args.client w.in-Some-new.filter) refl c.loop-number-2.invariant w.end_into-in-Some-new.ensures.clients w.end_into-in-Some-new.ensures.rest)
  | in_default-new w ↦ subst (IsAsBefore c.args.client c.args.self.now) (sym w.self-is) c.loop-number-2.invariant
]

pub loop-edge-init : goal.loop-edge-init
loop-edge-init c = c.loop-number-2.invariant

there : (c : goal.After-disconnect) → has_edge c.loop-edge.self.graph c.in-Some-edge_into.edge.source c.in-Some-edge_into.edge.target ≡ true
there c = ap (λ (x : Network). has_edge x.graph c.in-Some-edge_into.edge.source c.in-Some-edge_into.edge.target) (sym c.self.view_is) ∙ c.in-Some-edge_into.ensures.there

pub loop-edge-smaller : goal.loop-edge-smaller
loop-edge-smaller c = into-length c.loop-edge.self.graph _ c.in-Some-edge_into.edge c.disconnect.ensures.graph (there c)

pub loop-edge-preserved : goal.loop-edge-preserved
loop-edge-preserved c = before-edge c.args.client _ c.loop-edge.self _ c.in-Some-edge_into.edge c.loop-edge.invariant c.disconnect.ensures.clients c.disconnect.ensures.graph c.in-Some-edge_into.ensures.into
