use Rattle.std.proofs.Common.{◌≡◌, ◌+◌, ℕ, true, ◌∷◌, [], ◌++◌, take, ap, sym, subst, ◌∙◌}
use Rattle.std.proofs.lemmas.List.{take_more}
use Rattle.patch_graph.specs.Index.{targets_of}
use Rattle.seq_sending.specs.Reach.{is_passed, LeadWithin}
use Rattle.seq_sending.proofs.Agreeing.{within-zero, within-suc, within-more, within-one-more}
use Rattle.seq_sending.proofs.reach.+look.Goals as goal

pub look_at-returns-then-hops-eq0-clause-within : goal.look_at-returns-then-hops-eq0-clause-within
look_at-returns-then-hops-eq0-clause-within t c some filter =
    let a = c.args in
    (c.in_ok-note.ensures.noted, within-zero _ a.graph.now a.hops (targets_of a.graph.now a.node.now) c.if-hops-eq0.true)

pub look_at_all-loop-node-init : goal.look_at_all-loop-node-init
look_at_all-loop-node-init t c = ((λ some. within-suc _ c.args.graph.now c.args.hops [] (record {})), (λ w x its. its))

pub look_at_all-loop-node-preserved : goal.look_at_all-loop-node-preserved
look_at_all-loop-node-preserved t c =
    let a = c.args in
    let l = c.loop-node in
    let before : ℕ → Type 0 = λ x. is_passed l.passed.items a.way x ≡ true in
    let after : ℕ → Type 0 = λ x. is_passed c.look_at.new.passed.items a.way x ≡ true in
    let nodes = take l.node-index a.nodes.now in (
      (λ some.
          subst (LeadWithin after a.graph.now (a.hops + 1))
          (sym (take_more a.nodes.now l.node-index c.node-item.result c.loop-node-test.true ∙ ap (λ x. nodes ++ x ∷ []) (sym c.node-item.is)))
          (within-one-more after a.graph.now a.hops nodes c.node-item.result
          (within-more before after (λ x its. c.look_at.ensures.kept a.way x its) a.graph.now (a.hops + 1) nodes (l.invariant.0 c.if-left-eq0.false))
          (c.in_ok-left.ensures.within some))),
      (λ w x its. c.look_at.ensures.kept w x (l.invariant.1 w x its)),
    )
