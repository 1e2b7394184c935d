use Rattle.std.proofs.Common.{◌≡◌, ◌<◌, ◌-◌, ◌^◌, ℕ, List, Some, get_or, drop, length, ap, sym, subst, ◌∙◌, arith}
use Rattle.std.specs.List.{zip, slice_get}
use Rattle.std.proofs.lemmas.List.{length-take-le}
use Rattle.node_table.specs.declared.number.Addr.{Addr}
use Rattle.patch_graph.specs.Aged.{IsRising}
use Rattle.patch_graph.proofs.Linked.{without_age, rising-filter}
use Rattle.patch_graph.proofs.Closed.{last_pair, pairs_popped}
use Rattle.patch_graph.proofs.links.Links.pop.Goals as goal

same_value : {X : Type 0} (x y : X) → ◌≡◌ {A = Rattle.std.specs.declared.option.Option.TheVariants.the_data X} (Some x) (Some y) → x ≡ y
same_value x y e = cc

some : (c : goal.After-unwrap-age) → c.self.inside.first < c.self.inside.nodes.len
some c = omega (arith, c.if-self-len.false, c.len.ensures, c.self.invariant.1, c.self.inside.nodes.ok.0)

node_is : (c : goal.After-unwrap-age) → c.unwrap-node.result ≡ get_or c.self.inside.nodes.items (c.self.inside.nodes.len - 1) c.unwrap-node.result
node_is c = same_value _ _ (sym c.unwrap-node.ensures ∙ c.pop.ensures.value c.unwrap-node.result (omega (arith, some c)))

age_is : (c : goal.After-unwrap-age) → c.unwrap-age.result ≡ get_or c.self.inside.ages.items (c.self.inside.ages.len - 1) c.unwrap-age.result
age_is c = same_value _ _ (sym c.unwrap-age.ensures ∙ c.pop-2.ensures.value c.unwrap-age.result (omega (arith, some c, c.self.invariant.0, c.self.inside.nodes.ok.0, c.self.inside.ages.ok.0)))

left : (c : goal.After-unwrap-age) → zip (drop c.self.inside.first c.pop.new.self.items) (drop c.self.inside.first c.pop-2.new.self.items) ≡ without_age c.unwrap-age.result (zip (drop c.self.inside.first c.self.inside.nodes.items) (drop c.self.inside.first c.self.inside.ages.items))
left c = pairs_popped c.self.inside.nodes.items c.pop.new.self.items c.self.inside.ages.items c.pop-2.new.self.items c.self.inside.first ((c.self.inside.nodes.len - 1) - c.self.inside.first) c.self.inside.nodes.len c.self.inside.ages.len c.unwrap-node.result c.unwrap-age.result
    c.self.invariant.0 c.self.inside.nodes.ok.0 c.self.inside.ages.ok.0 (some c) (omega (arith, some c)) (node_is c) (age_is c) (2 ^ 64) c.self.invariant.2 c.pop.ensures.rest c.pop-2.ensures.rest

pub invariant_of-self : goal.invariant_of-self
invariant_of-self c =
    let nodes : length c.pop.new.self.items ≡ c.self.inside.nodes.len - 1 = ap length c.pop.ensures.rest ∙ length-take-le (c.self.inside.nodes.len - 1) c.self.inside.nodes.items (omega (arith, c.self.inside.nodes.ok.0)) in
    let ages : length c.pop-2.new.self.items ≡ c.self.inside.ages.len - 1 = ap length c.pop-2.ensures.rest ∙ length-take-le (c.self.inside.ages.len - 1) c.self.inside.ages.items (omega (arith, c.self.inside.ages.ok.0)) in (
      omega (arith, nodes, ages, c.self.invariant.0, c.self.inside.nodes.ok.0, c.self.inside.ages.ok.0),
      omega (arith, nodes, some c),
      subst (λ xs. IsRising 0 xs (2 ^ 64)) (sym (left c)) (rising-filter _ 0 _ (2 ^ 64) c.self.invariant.2),
    )

pub returns-clause-value : goal.returns-clause-value
returns-clause-value c =
    sym (ap (λ (xs : List (Addr × ℕ)). slice_get xs (length xs - 1)) (sym c.self.view_is) ∙ last_pair c.self.inside.nodes.items c.pop.new.self.items c.self.inside.ages.items c.pop-2.new.self.items c.self.inside.first ((c.self.inside.nodes.len - 1) - c.self.inside.first) c.self.inside.nodes.len c.self.inside.ages.len c.unwrap-node.result c.unwrap-age.result
    c.self.invariant.0 c.self.inside.nodes.ok.0 c.self.inside.ages.ok.0 (some c) (omega (arith, some c)) (node_is c) (age_is c))

pub returns-clause-rest : goal.returns-clause-rest
returns-clause-rest c = left c ∙ ap (without_age c.unwrap-age.result) c.self.view_is
