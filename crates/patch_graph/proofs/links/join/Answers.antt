use Rattle.std.proofs.Common.{◌≡◌, ◌∷◌, [], ◌++◌, ◌<◌, ◌+◌, ◌^◌, ℕ, List, drop, ap, sym, subst, length, ◌∙◌, arith}
use Rattle.std.proofs.lemmas.List.{length-append}
use Rattle.node_table.specs.declared.number.Addr.{Addr}
use Rattle.patch_graph.specs.Aged.{IsRising}
use Rattle.patch_graph.proofs.Linked.{rising-last}
use Rattle.patch_graph.proofs.Closed.{pairs_joined}
use Rattle.patch_graph.proofs.links.join.Goals as goal

rising_joined : (xs ys zs : List (Addr × ℕ)) (k : Addr) (v : ℕ) → zs ≡ xs ++ (k, v) ∷ [] → xs ≡ ys → v < 2 ^ 64 → IsRising 0 ys v → IsRising 0 zs (2 ^ 64)
rising_joined xs ys zs k v e f l h = subst (λ us. IsRising 0 us (2 ^ 64)) (sym e) (rising-last 0 xs v (2 ^ 64) k l (subst (λ us. IsRising 0 us v) (sym f) h))

pub invariant_of-onward-2 : goal.invariant_of-onward-2
invariant_of-onward-2 c =
    let more : length c.push_within.new.items.items ≡ length c.reserve.new.nodes.items + 1 = ap length c.push_within.ensures ∙ length-append c.reserve.new.nodes.items (c.args.target.now ∷ []) in
    let older : length c.push_within-2.new.items.items ≡ length c.reserve.new.ages.items + 1 = ap length c.push_within-2.ensures ∙ length-append c.reserve.new.ages.items (c.args.age ∷ []) in (
      omega (arith, more, older, c.reserve.ensures.beside),
      omega (arith, more, c.reserve.ensures.within),
      rising_joined _ _ _ c.args.target.now c.args.age (pairs_joined c.reserve.new.nodes.items c.push_within.new.items.items (drop c.onward.inside.first c.onward.inside.nodes.items) c.reserve.new.ages.items c.push_within-2.new.items.items (drop c.onward.inside.first c.onward.inside.ages.items) c.reserve.new.first c.args.target.now c.args.age c.reserve.ensures.beside c.reserve.ensures.within c.reserve.ensures.nodes c.reserve.ensures.ages c.push_within.ensures c.push_within-2.ensures) c.onward.view_is c.ranges.age.fits c.requires.onward,
    )

pub invariant_of-back-2 : goal.invariant_of-back-2
invariant_of-back-2 c =
    let more : length c.push_within-3.new.items.items ≡ length c.reserve-2.new.nodes.items + 1 = ap length c.push_within-3.ensures ∙ length-append c.reserve-2.new.nodes.items (c.args.source.now ∷ []) in
    let older : length c.push_within-4.new.items.items ≡ length c.reserve-2.new.ages.items + 1 = ap length c.push_within-4.ensures ∙ length-append c.reserve-2.new.ages.items (c.args.age ∷ []) in (
      omega (arith, more, older, c.reserve-2.ensures.beside),
      omega (arith, more, c.reserve-2.ensures.within),
      rising_joined _ _ _ c.args.source.now c.args.age (pairs_joined c.reserve-2.new.nodes.items c.push_within-3.new.items.items (drop c.back.inside.first c.back.inside.nodes.items) c.reserve-2.new.ages.items c.push_within-4.new.items.items (drop c.back.inside.first c.back.inside.ages.items) c.reserve-2.new.first c.args.source.now c.args.age c.reserve-2.ensures.beside c.reserve-2.ensures.within c.reserve-2.ensures.nodes c.reserve-2.ensures.ages c.push_within-3.ensures c.push_within-4.ensures) c.back.view_is c.ranges.age.fits c.requires.back,
    )

pub returns-clause-onward : goal.returns-clause-onward
returns-clause-onward c =
    pairs_joined c.reserve.new.nodes.items c.push_within.new.items.items (drop c.onward.inside.first c.onward.inside.nodes.items) c.reserve.new.ages.items c.push_within-2.new.items.items (drop c.onward.inside.first c.onward.inside.ages.items) c.reserve.new.first c.args.target.now c.args.age c.reserve.ensures.beside c.reserve.ensures.within c.reserve.ensures.nodes c.reserve.ensures.ages c.push_within.ensures c.push_within-2.ensures
    ∙ ap (λ xs. xs ++ (c.args.target.now, c.args.age) ∷ []) c.onward.view_is

pub returns-clause-back : goal.returns-clause-back
returns-clause-back c =
    pairs_joined c.reserve-2.new.nodes.items c.push_within-3.new.items.items (drop c.back.inside.first c.back.inside.nodes.items) c.reserve-2.new.ages.items c.push_within-4.new.items.items (drop c.back.inside.first c.back.inside.ages.items) c.reserve-2.new.first c.args.source.now c.args.age c.reserve-2.ensures.beside c.reserve-2.ensures.within c.reserve-2.ensures.nodes c.reserve-2.ensures.ages c.push_within-3.ensures c.push_within-4.ensures
    ∙ ap (λ xs. xs ++ (c.args.source.now, c.args.age) ∷ []) c.back.view_is
