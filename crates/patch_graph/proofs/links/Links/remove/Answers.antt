use Rattle.std.proofs.Common.{◌≡◌, ◌≤◌, ◌<◌, ◌+◌, ◌^◌, ℕ, List, map, length, get_or, ap, sym, subst, arith, ◌∙◌}
use Rattle.std.proofs.lemmas.List.Edits.{length-remove}
use Rattle.node_table.specs.declared.number.Addr.{Addr}
use Rattle.patch_graph.specs.Aged.{IsRising}
use Rattle.patch_graph.proofs.Linked.{rising_ages, rising-filter, without_age, no_age, zip-halves, halves_long}
use Rattle.patch_graph.proofs.Closed.{stands, gone_upward, gone_downward}
use Rattle.patch_graph.proofs.Stood.{link_position, no_link_position}
use Rattle.patch_graph.proofs.links.Links.remove.Goals as goal

abbrev ages_of : List (Addr × ℕ) → List ℕ
ages_of xs = map (λ x. x.1) xs

pub place_of_age-requires : goal.place_of_age-requires
place_of_age-requires c i j d l m =
    let xs : List (Addr × ℕ) = c.args.self.now in
    subst (λ vs. get_or vs i d ≤ get_or vs j d) (sym c.ages.ensures)
    (rising_ages 0 (map (λ x. x.0) xs) (ages_of xs) (2 ^ 64) i j d (halves_long xs) (subst (λ ys. IsRising 0 ys (2 ^ 64)) (c.self.view_is ∙ sym (zip-halves xs)) c.self.invariant.2) l (subst (λ vs. j < length vs) c.ages.ensures m))

pub returns-in_default-clause-rest : goal.returns-in_default-clause-rest
returns-in_default-clause-rest c =
    let xs : List (Addr × ℕ) = c.args.self.now in
    sym (zip-halves xs)
    ∙ no_age (map (λ x. x.0) xs) (ages_of xs) c.args.age (λ i l e. c.in_default.ensures.none i (subst (λ vs. i < length vs) (sym c.ages.ensures) l) (ap (λ vs. get_or vs i 0) c.ages.ensures ∙ e))
    ∙ ap (without_age c.args.age) (zip-halves xs)

pub overflow_sub-len : goal.overflow_sub-len
overflow_sub-len c =
    let low : c.self.inside.first + c.in-Some.before < length c.self.inside.nodes.items =
    stands c.self.inside.nodes.items c.self.inside.ages.items c.args.self.now c.ages.result.now c.self.inside.first c.in-Some.before c.args.age (2 ^ 64) c.self.invariant.0 c.self.view_is c.self.invariant.2 c.ages.ensures c.in-Some.ensures.there.0 c.in-Some.ensures.there.1 in
    omega (arith, c.len.ensures, c.self.inside.nodes.ok.0)

pub close_upward-requires-clause-within : goal.close_upward-requires-clause-within
close_upward-requires-clause-within c = (
  omega arith,
  stands c.self.inside.nodes.items c.self.inside.ages.items c.args.self.now c.ages.result.now c.self.inside.first c.in-Some.before c.args.age (2 ^ 64) c.self.invariant.0 c.self.view_is c.self.invariant.2 c.ages.ensures c.in-Some.ensures.there.0 c.in-Some.ensures.there.1,
)

pub close_downward-requires-clause-within : goal.close_downward-requires-clause-within
close_downward-requires-clause-within c =
    stands c.self.inside.nodes.items c.self.inside.ages.items c.args.self.now c.ages.result.now c.self.inside.first c.in-Some.before c.args.age (2 ^ 64) c.self.invariant.0 c.self.view_is c.self.invariant.2 c.ages.ensures c.in-Some.ensures.there.0 c.in-Some.ensures.there.1

pub invariant_of-self : goal.invariant_of-self
invariant_of-self c =
    let low : c.self.inside.first + c.in-Some.before < length c.self.inside.nodes.items =
    stands c.self.inside.nodes.items c.self.inside.ages.items c.args.self.now c.ages.result.now c.self.inside.first c.in-Some.before c.args.age (2 ^ 64) c.self.invariant.0 c.self.view_is c.self.invariant.2 c.ages.ensures c.in-Some.ensures.there.0 c.in-Some.ensures.there.1 in (
      omega (arith, c.close_upward.ensures.node_count, c.close_upward.ensures.age_count, c.self.invariant.0),
      omega (arith, c.close_upward.ensures.node_count),
      subst (λ xs. IsRising 0 xs (2 ^ 64)) (sym (gone_upward c.self.inside.nodes.items c.self.inside.ages.items c.args.self.now c.ages.result.now c.self.inside.first c.in-Some.before c.args.age (2 ^ 64) c.self.invariant.0 c.self.view_is c.self.invariant.2 c.ages.ensures c.in-Some.ensures.there.0 c.in-Some.ensures.there.1 c.close_upward.new.nodes.items c.close_upward.new.ages.items c.close_upward.ensures.node_count c.close_upward.ensures.age_count c.close_upward.ensures.nodes c.close_upward.ensures.ages)) (rising-filter _ 0 _ (2 ^ 64) (subst (λ xs. IsRising 0 xs (2 ^ 64)) c.self.view_is c.self.invariant.2)),
    )

pub invariant_of-self-else-before-len : goal.invariant_of-self-else-before-len
invariant_of-self-else-before-len c =
    let low : c.self.inside.first + c.in-Some.before < length c.self.inside.nodes.items =
    stands c.self.inside.nodes.items c.self.inside.ages.items c.args.self.now c.ages.result.now c.self.inside.first c.in-Some.before c.args.age (2 ^ 64) c.self.invariant.0 c.self.view_is c.self.invariant.2 c.ages.ensures c.in-Some.ensures.there.0 c.in-Some.ensures.there.1 in
    let in_ages : c.self.inside.first + c.in-Some.before < length c.self.inside.ages.items = omega (arith, low, c.self.invariant.0) in
    let nodes : length c.close_downward.new.nodes.items + 1 ≡ length c.self.inside.nodes.items = ap (λ ys. length ys + 1) c.close_downward.ensures.nodes ∙ length-remove c.self.inside.nodes.items (c.self.inside.first + c.in-Some.before) low in
    let ages : length c.close_downward.new.ages.items + 1 ≡ length c.self.inside.ages.items = ap (λ ys. length ys + 1) c.close_downward.ensures.ages ∙ length-remove c.self.inside.ages.items (c.self.inside.first + c.in-Some.before) in_ages in (
      omega (arith, nodes, ages, c.self.invariant.0),
      omega (arith, nodes, low),
      subst (λ xs. IsRising 0 xs (2 ^ 64)) (sym (gone_downward c.self.inside.nodes.items c.self.inside.ages.items c.args.self.now c.ages.result.now c.self.inside.first c.in-Some.before c.args.age (2 ^ 64) c.self.invariant.0 c.self.view_is c.self.invariant.2 c.ages.ensures c.in-Some.ensures.there.0 c.in-Some.ensures.there.1 c.close_downward.new.nodes.items c.close_downward.new.ages.items c.close_downward.ensures.nodes c.close_downward.ensures.ages)) (rising-filter _ 0 _ (2 ^ 64) (subst (λ xs. IsRising 0 xs (2 ^ 64)) c.self.view_is c.self.invariant.2)),
    )

pub returns-then-before-len-clause-rest : goal.returns-then-before-len-clause-rest
returns-then-before-len-clause-rest c =
    gone_upward c.self.inside.nodes.items c.self.inside.ages.items c.args.self.now c.ages.result.now c.self.inside.first c.in-Some.before c.args.age (2 ^ 64) c.self.invariant.0 c.self.view_is c.self.invariant.2 c.ages.ensures c.in-Some.ensures.there.0 c.in-Some.ensures.there.1 c.close_upward.new.nodes.items c.close_upward.new.ages.items c.close_upward.ensures.node_count c.close_upward.ensures.age_count c.close_upward.ensures.nodes c.close_upward.ensures.ages

pub returns-else-before-len-clause-rest : goal.returns-else-before-len-clause-rest
returns-else-before-len-clause-rest c =
    gone_downward c.self.inside.nodes.items c.self.inside.ages.items c.args.self.now c.ages.result.now c.self.inside.first c.in-Some.before c.args.age (2 ^ 64) c.self.invariant.0 c.self.view_is c.self.invariant.2 c.ages.ensures c.in-Some.ensures.there.0 c.in-Some.ensures.there.1 c.close_downward.new.nodes.items c.close_downward.new.ages.items c.close_downward.ensures.nodes c.close_downward.ensures.ages

pub returns-in_default-clause-place : goal.returns-in_default-clause-place
returns-in_default-clause-place c =
    sym (no_link_position c.args.self.now c.args.age (λ i l e. c.in_default.ensures.none i (subst (λ vs. i < length vs) (sym c.ages.ensures) l) (ap (λ vs. get_or vs i 0) c.ages.ensures ∙ e)))

pub returns-then-before-len-clause-place : goal.returns-then-before-len-clause-place
returns-then-before-len-clause-place c =
    sym (link_position c.args.self.now c.in-Some.before c.args.age (2 ^ 64) (subst (λ xs. IsRising 0 xs (2 ^ 64)) c.self.view_is c.self.invariant.2)
    (subst (λ vs. c.in-Some.before < length vs) c.ages.ensures c.in-Some.ensures.there.0)
    (sym (ap (λ vs. get_or vs c.in-Some.before 0) c.ages.ensures) ∙ c.in-Some.ensures.there.1))

pub returns-else-before-len-clause-place : goal.returns-else-before-len-clause-place
returns-else-before-len-clause-place c =
    sym (link_position c.args.self.now c.in-Some.before c.args.age (2 ^ 64) (subst (λ xs. IsRising 0 xs (2 ^ 64)) c.self.view_is c.self.invariant.2)
    (subst (λ vs. c.in-Some.before < length vs) c.ages.ensures c.in-Some.ensures.there.0)
    (sym (ap (λ vs. get_or vs c.in-Some.before 0) c.ages.ensures) ∙ c.in-Some.ensures.there.1))
