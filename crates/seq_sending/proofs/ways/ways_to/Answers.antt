use Rattle.std.proofs.Common.{◌+◌, [], ◌∷◌, ◌++◌, take, sym, ap, subst, ◌∙◌}
use Rattle.std.proofs.lemmas.List.{take_all, take_more}
use Rattle.seq_sending.specs.Ways.{AreWaysTo}
use Rattle.seq_sending.proofs.Agreeing.{ways-one-more}
use Rattle.seq_sending.proofs.ways.ways_to.Goals as goal

pub loop-target-init : goal.loop-target-init
loop-target-init c = subst (AreWaysTo c.args.clients.now.clients c.args.graph.now []) (sym (c.in_ok-reserve.ensures.items ∙ c.requires)) (record {})

pub loop-target-preserved : goal.loop-target-preserved
loop-target-preserved c =
    let a = c.args in
    let l = c.loop-target in
    let cs = a.clients.now.clients in
    let node = c.target-item.result in
    subst (AreWaysTo cs a.graph.now (take (l.target-index + 1) a.targets.now)) (sym c.in_ok-push.ensures.items)
    (subst (λ ts. AreWaysTo cs a.graph.now ts (l.ways.items ++ c.in_ok-way.way ∷ []))
    (sym (take_more a.targets.now l.target-index node c.loop-target-test.true ∙ ap (λ x. take l.target-index a.targets.now ++ x ∷ []) (sym c.target-item.is)))
    (ways-one-more cs a.graph.now (take l.target-index a.targets.now) l.ways.items node c.in_ok-way.way l.invariant c.in_ok-way.ensures.way c.in_ok-way.ensures.parts))

pub returns : goal.returns
returns c =
    let l = c.loop-target in
    subst (λ ts. AreWaysTo c.args.clients.now.clients c.args.graph.now ts l.ways.items) (take_all l.target-index c.args.targets.now c.loop-target-test.false) l.invariant
