use Rattle.std.proofs.Common.{◌≡◌, ◌-◌, ℕ, true, ◌∷◌, [], ◌++◌, length, take, ap, sym, subst, ◌∙◌, arith}
use Rattle.std.proofs.lemmas.List.{length-take-le, take_all, take_more}
use Rattle.patch_graph.specs.Paths.{hops}
use Rattle.seq_sending.specs.Reach.{is_passed, LeadInOrder, LeadsWithin}
use Rattle.seq_sending.proofs.Agreeing.{order-more}
use Rattle.seq_sending.proofs.reach.look_from.Goals as goal

pub loop-way-init : goal.loop-way-init
loop-way-init c = ((λ some order. order), c.requires)

pub loop-way-preserved : goal.loop-way-preserved
unfolding hops
loop-way-preserved c =
    let a = c.args in
    let l = c.loop-way in
    let g = a.graph.now in
    let nodes = take l.way a.nodes.now in
    let node = c.index-nodes-way.result in
    let P : ℕ → ℕ → Type 0 = λ w x. is_passed l.passed.items w x ≡ true in
    let Q : ℕ → ℕ → Type 0 = λ w x. is_passed c.look_at.new.passed.items w x ≡ true in
    let long : length nodes ≡ l.way = length-take-le l.way a.nodes.now l.invariant.1 in (
      (λ some order.
          subst (LeadInOrder Q g) (sym (take_more a.nodes.now l.way node c.loop-way-test.true ∙ ap (λ x. nodes ++ x ∷ []) (sym c.index-nodes-way.is)))
          (order-more P Q g nodes node c.look_at.ensures.kept (l.invariant.0 c.if-left-eq0.false order)
          (subst (λ n. LeadsWithin (Q n) g (hops - 1) node) (sym long) (c.in_ok-left.ensures.within some)))),
      omega (arith, c.loop-way-test.true),
    )

pub returns : goal.returns
returns c some order =
    subst (LeadInOrder (λ w x. is_passed c.loop-way.passed.items w x ≡ true) c.args.graph.now) (take_all c.loop-way.way c.args.nodes.now c.loop-way-test.false)
    (c.loop-way.invariant.0 some order)
