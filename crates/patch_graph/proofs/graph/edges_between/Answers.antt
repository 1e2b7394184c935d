use Rattle.std.proofs.Common.{◌≡◌, ◌<◌, ap, map, ◌++◌, ◌∷◌, [], ◌+◌, ℕ, List, length, take, get_or, sym, arith, ◌∙◌}
use Rattle.std.specs.List.{zip}
use Rattle.std.proofs.lemmas.Slice.{pushed}
use Rattle.std.proofs.lemmas.Slice.Zip.{get_or-zip, length-zip}
use Rattle.std.proofs.lemmas.List.{take_all, take_more, map-append}
use Rattle.node_table.specs.declared.number.Addr.{Addr}
use Rattle.patch_graph.specs.declared.edge.Edge.{Edge}
use Rattle.patch_graph.specs.Edges.{edge}
use Rattle.patch_graph.proofs.graph.edges_between.Goals as goal

abbrev ends : (Addr × ℕ) × (Addr × ℕ) → Edge
ends p = edge p.1.0 p.0.0

one_more : (ts ss : List (Addr × ℕ)) (i : ℕ) (t s : Addr × ℕ) → length ts ≡ length ss → i < length ts → map ends (take (i + 1) (zip ts ss)) ≡ map ends (take i (zip ts ss)) ++ edge (get_or ss i s).0 (get_or ts i t).0 ∷ []
one_more ts ss i t s long within =
    let more : take (i + 1) (zip ts ss) ≡ take i (zip ts ss) ++ get_or (zip ts ss) i (t, s) ∷ [] = take_more (zip ts ss) i (t, s) (omega (arith, long, within, length-zip ts ss)) in
    let is : ◌≡◌ {A = (Addr × ℕ) × (Addr × ℕ)} (get_or (zip ts ss) i (t, s)) (get_or ts i t, get_or ss i s) = get_or-zip ts ss i (t, s) within (omega (arith, long, within)) in
    ap (map ends) (more ∙ ap (λ x. take i (zip ts ss) ++ x ∷ []) is) ∙ map-append ends (take i (zip ts ss)) ((get_or ts i t, get_or ss i s) ∷ [])

pub loop-turn-preserved : goal.loop-turn-preserved
loop-turn-preserved c =
    pushed _ c.loop-turn.invariant c.in_ok-push.was c.push.ensures.items
    ∙ sym (one_more c.args.targets.now c.args.sources.now c.loop-turn.turn c.index-targets-turn.result c.index-sources-turn.result c.requires c.loop-turn-test.true)

pub returns : goal.returns
returns c =
    c.loop-turn.invariant ∙ ap (map ends) (take_all _ (zip c.args.targets.now c.args.sources.now) (omega (arith, c.requires, c.loop-turn-test.false, length-zip c.args.targets.now c.args.sources.now)))
