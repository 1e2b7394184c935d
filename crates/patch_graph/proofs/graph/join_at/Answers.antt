use Rattle.std.proofs.Common.{◌<◌, [], subst, arith}
use Rattle.std.proofs.lemmas.List.{get_or_default}
use Rattle.patch_graph.specs.Aged.{IsRising}
use Rattle.patch_graph.proofs.Same.{place-below}
use Rattle.patch_graph.proofs.graph.join_at.Goals as goal

pub join-requires-clause-onward : goal.join-requires-clause-onward
join-requires-clause-onward c =
    let low : c.place_of.result < 2048 = place-below _ _ _ c.place_of.ensures.place.1 in
    subst (λ xs. IsRising 0 xs c.args.age) (get_or_default c.args.targets.now c.place_of.result [] c.index-targets-place_of.result (omega (arith, low, c.requires.places.0))) (c.requires.young _ _ _ c.place_of.ensures.place.1).0

pub join-requires-clause-back : goal.join-requires-clause-back
join-requires-clause-back c =
    let low : c.place_of-2.result < 2048 = place-below _ _ _ c.place_of-2.ensures.place.1 in
    subst (λ xs. IsRising 0 xs c.args.age) (get_or_default c.args.sources.now c.place_of-2.result [] c.index-sources-place_of.result (omega (arith, low, c.requires.places.1))) (c.requires.young _ _ _ c.place_of-2.ensures.place.1).1
