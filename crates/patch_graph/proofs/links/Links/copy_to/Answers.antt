use Rattle.std.proofs.Common.{◌≡◌, ap, sym, length, get_or, ◌++◌, arith, ◌∙◌, append_assoc}
use Rattle.std.proofs.lemmas.Slice.{pushed}
use Rattle.std.proofs.lemmas.List.{take_all, length-map, get_or_default}
use Rattle.patch_graph.proofs.Linked.{pair_more, halves_zip, halves_match}
use Rattle.patch_graph.proofs.links.Links.copy_to.Goals as goal

pub loop-place-preserved : goal.loop-place-preserved
loop-place-preserved c =
    let v = get_or c.ages-ages.result.now c.loop-place.place 0 in
    let long : length c.ages-ages.result.now ≡ length c.nodes-nodes.result.now = halves_match c.args.self.now c.nodes-nodes.result.now c.ages-ages.result.now c.nodes-nodes.ensures c.ages-ages.ensures in
    pushed _ c.loop-place.invariant c.in_ok-push.was c.push.ensures.items ∙ append_assoc c.args.links.now.items _ _
    ∙ ap (λ xs. c.args.links.now.items ++ xs) (sym (pair_more c.nodes-nodes.result.now c.ages-ages.result.now c.args.self.now c.loop-place.place c.index-nodes-place.result v (halves_match c.args.self.now c.nodes-nodes.result.now c.ages-ages.result.now c.nodes-nodes.ensures c.ages-ages.ensures) (halves_zip c.args.self.now c.nodes-nodes.result.now c.ages-ages.result.now c.nodes-nodes.ensures c.ages-ages.ensures) c.loop-place-test.true c.index-nodes-place.is (get_or_default c.ages-ages.result.now c.loop-place.place 0 v (omega (arith, long, c.loop-place-test.true)))))

pub returns : goal.returns
returns c =
    let long : length c.nodes-nodes.result.now ≡ length c.args.self.now = ap length c.nodes-nodes.ensures ∙ length-map c.args.self.now (λ x. x.0) in
    c.loop-place.invariant ∙ ap (λ xs. c.args.links.now.items ++ xs) (take_all c.loop-place.place c.args.self.now (omega (arith, c.loop-place-test.false, long)))
