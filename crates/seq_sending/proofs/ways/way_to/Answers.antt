use Rattle.std.proofs.Common.{List, ℕ, Option, ap, refl, sym, ◌∙◌, arith}
use Rattle.std.proofs.lemmas.Result.{IfOk-weaker}
use Rattle.patch_graph.specs.Paths.{hops}
use Rattle.seq_sending.specs.Carrying.{let_through, of_some, copies_onward}
use Rattle.seq_sending.proofs.Onward.{at-end, past-filter, on-to, ends-at, ends-by}
use Rattle.seq_sending.proofs.ways.way_to.Goals as goal

pub loop-node-init : goal.loop-node-init
unfolding hops
loop-node-init c moment m is = refl

pub returns-in-Port-clause-way : goal.returns-in-Port-clause-way
returns-in-Port-clause-way c moment m is =
    let l = c.loop-node in
    let a = c.args in
    c.way_by.ensures.copies a.clients.now.clients a.graph.now moment m
    ∙ sym (at-end a.clients.now.clients a.graph.now moment l.hops l.node.now c.in-Port.port c.in-Port.is (let_through l.rule m)) ∙ l.invariant moment m is

pub returns-then-hops-eq0-clause-way : goal.returns-then-hops-eq0-clause-way
returns-then-hops-eq0-clause-way c moment m is =
    let l = c.loop-node in
    let a = c.args in
    sym (past-filter a.clients.now.clients a.graph.now moment l.hops l.node.now c.in-Filter.filter _ c.in-Filter.is c.rule.ensures (let_through l.rule m) _ (c.chained-rule.ensures m is)
    ∙ ends-by a.clients.now.clients a.graph.now moment l.hops _ c.if-hops-eq0.true (let_through c.chained-rule.result m)) ∙ l.invariant moment m is

pub returns-in-empty-clause-way : goal.returns-in-empty-clause-way
returns-in-empty-clause-way c moment m is =
    let l = c.loop-node in
    let a = c.args in
    sym (past-filter a.clients.now.clients a.graph.now moment l.hops l.node.now c.in-Filter.filter _ c.in-Filter.is c.rule.ensures (let_through l.rule m) _ (c.chained-rule.ensures m is)
    ∙ ap (λ ts. of_some (λ x. copies_onward a.clients.now.clients a.graph.now moment l.hops ts x) (let_through c.chained-rule.result m)) (sym c.targets.ensures)
    ∙ ends-at a.clients.now.clients a.graph.now moment l.hops c.targets.result.now c.in-empty.len_below (let_through c.chained-rule.result m)) ∙ l.invariant moment m is

pub returns-in_default-clause-way : goal.returns-in_default-clause-way
returns-in_default-clause-way c =
    let l = c.loop-node in
    let a = c.args in
    IfOk-weaker c.parted.result _ _
    (λ way copies moment m is.
    let passed : Option (List ℕ) = let_through c.chained-rule.result m in
    copies a.graph.now moment m is
    ∙ sym (past-filter a.clients.now.clients a.graph.now moment l.hops l.node.now c.in-Filter.filter _ c.in-Filter.is c.rule.ensures (let_through l.rule m) passed (c.chained-rule.ensures m is)
    ∙ ap (λ ts. of_some (λ x. copies_onward a.clients.now.clients a.graph.now moment l.hops ts x) passed) (sym c.targets.ensures))
    ∙ l.invariant moment m is)
    c.parted.ensures.copies

pub loop-node-preserved : goal.loop-node-preserved
loop-node-preserved c moment m is =
    let l = c.loop-node in
    let a = c.args in
    let passed : Option (List ℕ) = let_through c.chained-rule.result m in
    sym (past-filter a.clients.now.clients a.graph.now moment l.hops l.node.now c.in-Filter.filter _ c.in-Filter.is c.rule.ensures (let_through l.rule m) passed (c.chained-rule.ensures m is)
    ∙ ap (λ ts. of_some (λ x. copies_onward a.clients.now.clients a.graph.now moment l.hops ts x) passed) (sym c.targets.ensures)
    ∙ on-to a.clients.now.clients a.graph.now moment l.hops c.targets.result.now c.next-item.result (omega arith) (omega arith) c.next-item.is c.if-hops-eq0.false passed)
    ∙ l.invariant moment m is

pub returns-in-Port-clause-parts : goal.returns-in-Port-clause-parts
returns-in-Port-clause-parts c = c.way_by.ensures.whole c.args.target.now
