use Rattle.std.proofs.Common.{◌≡◌, ap, sym, length, get_or, arith, ◌∙◌}
use Rattle.std.specs.Map.{lookup}
use Rattle.std.proofs.lemmas.List.{drop_all, length-map, get_or_default}
use Rattle.node_table.specs.Addresses.{same}
use Rattle.patch_graph.proofs.Linked.{looked_here, looked_past, halves_zip, halves_match}
use Rattle.patch_graph.proofs.Same.{addr_eq, same-sym}
use Rattle.patch_graph.proofs.links.Links.age_of.Goals as goal

pub returns-then-eq : goal.returns-then-eq
returns-then-eq c =
    let node = c.args.node.now in
    let other = c.index-nodes-place.result in
    let v = get_or c.ages-ages.result.now c.loop-place.place 0 in
    let long : length c.ages-ages.result.now ≡ length c.nodes-nodes.result.now = halves_match c.args.self.now c.nodes-nodes.result.now c.ages-ages.result.now c.nodes-nodes.ensures c.ages-ages.ensures in
    sym (looked_here c.nodes-nodes.result.now c.ages-ages.result.now c.args.self.now c.loop-place.place other v (halves_match c.args.self.now c.nodes-nodes.result.now c.ages-ages.result.now c.nodes-nodes.ensures c.ages-ages.ensures) (halves_zip c.args.self.now c.nodes-nodes.result.now c.ages-ages.result.now c.nodes-nodes.ensures c.ages-ages.ensures) c.loop-place-test.true c.index-nodes-place.is (get_or_default c.ages-ages.result.now c.loop-place.place 0 v (omega (arith, long, c.loop-place-test.true))) (same node) (same-sym node other ∙ sym (addr_eq other node) ∙ sym c.eq.ensures ∙ c.if-eq.true)) ∙ c.loop-place.invariant

pub loop-place-preserved : goal.loop-place-preserved
loop-place-preserved c =
    let node = c.args.node.now in
    let other = c.index-nodes-place.result in
    let v = get_or c.ages-ages.result.now c.loop-place.place 0 in
    let long : length c.ages-ages.result.now ≡ length c.nodes-nodes.result.now = halves_match c.args.self.now c.nodes-nodes.result.now c.ages-ages.result.now c.nodes-nodes.ensures c.ages-ages.ensures in
    looked_past c.nodes-nodes.result.now c.ages-ages.result.now c.args.self.now c.loop-place.place other v (halves_match c.args.self.now c.nodes-nodes.result.now c.ages-ages.result.now c.nodes-nodes.ensures c.ages-ages.ensures) (halves_zip c.args.self.now c.nodes-nodes.result.now c.ages-ages.result.now c.nodes-nodes.ensures c.ages-ages.ensures) c.loop-place-test.true c.index-nodes-place.is (get_or_default c.ages-ages.result.now c.loop-place.place 0 v (omega (arith, long, c.loop-place-test.true))) (same node) (same-sym node other ∙ sym (addr_eq other node) ∙ sym c.eq.ensures ∙ c.if-eq.false) ∙ c.loop-place.invariant

pub returns : goal.returns
returns c =
    let long : length c.nodes-nodes.result.now ≡ length c.args.self.now = ap length c.nodes-nodes.ensures ∙ length-map c.args.self.now (λ x. x.0) in
    sym (ap (lookup (same c.args.node.now)) (drop_all c.loop-place.place c.args.self.now (omega (arith, c.loop-place-test.false, long)))) ∙ c.loop-place.invariant
