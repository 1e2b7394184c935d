use Rattle.std.proofs.Common.{◌∷◌, [], ◌++◌, take, refl, ap, sym, subst, ◌∙◌}
use Rattle.std.proofs.lemmas.List.{take_all, take_more}
use Rattle.seq_sending.specs.Reach.{MayLeadThrough}
use Rattle.seq_sending.specs.Table.{AreWaysThrough}
use Rattle.seq_sending.proofs.Known.{at-once}
use Rattle.seq_sending.proofs.table.Found.catch_up.Goals as goal

pub loop-way-init : goal.loop-way-init
loop-way-init c are =
    let a = c.args in
    subst (λ n. AreWaysThrough (MayLeadThrough a.self.now.through) a.clients.now.clients a.graph.now (take n a.targets.now) a.self.now.ways) (sym c.len-way.ensures) are.known

pub loop-way-preserved : goal.loop-way-preserved
loop-way-preserved c are =
    let a = c.args in
    let l = c.loop-way in
    let new = c.add.new.self in
    subst (λ ts. AreWaysThrough (MayLeadThrough new.through) a.clients.now.clients a.graph.now ts new.ways)
    (sym (take_more a.targets.now l.way _ c.loop-way-test.true ∙ ap (λ x. take l.way a.targets.now ++ x ∷ []) (sym c.index-targets-way.is)))
    (c.add.ensures c.if-not-add.false (take l.way a.targets.now) (l.invariant are))

pub returns-clause-ways : goal.returns-clause-ways
returns-clause-ways c known are =
    let a = c.args in
    let l = c.loop-way in
    at-once a.clients.now.clients a.graph.now a.targets.now _ refl
    (subst (λ ts. AreWaysThrough (MayLeadThrough l.self.through) a.clients.now.clients a.graph.now ts l.self.ways) (take_all l.way a.targets.now c.loop-way-test.false) (l.invariant are))
