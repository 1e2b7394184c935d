use Rattle.std.proofs.Common.{◌≡◌, ◌≤◌, ◌-◌, ◌∷◌, [], ◌++◌, true, take, get_or, ap, sym, subst, ◌∙◌, arith}
use Rattle.std.proofs.lemmas.List.{take_all, take_more}
use Rattle.node_table.specs.Numbers.{first_client}
use Rattle.seq_sending.specs.Changes.{last_change}
use Rattle.seq_sending.specs.Reach.{is_among}
use Rattle.seq_sending.proofs.Agreeing.{none-among, among-more}
use Rattle.seq_sending.proofs.changes.Changes.are_unchanged.Goals as goal

pub loop-other-init : goal.loop-other-init
loop-other-init c x among = absurd (none-among x among)

pub loop-other-preserved : goal.loop-other-preserved
loop-other-preserved c x among =
    let a = c.args in
    let l = c.loop-other in
    among-more (λ y. last_change a.self.now y ≤ a.at) (take l.other-index a.passed.now) c.other-item.result l.invariant
    (subst (λ i. get_or a.self.now.last i 0 ≤ a.at) (sym (let e : c.other-item.result.client - first_client ≡ c.row_of.result = omega (arith, c.row_of.ensures.start) in e)) c.if-self-row_of.false) x
    (subst (λ cs. is_among cs x ≡ true) (take_more a.passed.now l.other-index c.other-item.result c.loop-other-test.true ∙ ap (λ y. take l.other-index a.passed.now ++ y ∷ []) (sym c.other-item.is)) among)

pub returns : goal.returns
returns c _ x among =
    let l = c.loop-other in
    l.invariant x (subst (λ cs. is_among cs x ≡ true) (sym (take_all l.other-index c.args.passed.now c.loop-other-test.false)) among)
