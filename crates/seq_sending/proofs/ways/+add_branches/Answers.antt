use Rattle.std.proofs.Common.{◌++◌, ◌-◌, List, take, refl, sym, ap, ◌∙◌, append-nil, append_assoc}
use Rattle.std.specs.Option.{option_map, option_and_then, option_copied}
use Rattle.std.specs.FinMap
use Rattle.std.specs.List.{flat_map}
use Rattle.std.proofs.lemmas.List.{take_all}
use Rattle.node_table.specs.declared.number.Addr.{Addr}
use Rattle.seq_state.specs.declared.log.Delivery.{Delivery}
use Rattle.seq_state.specs.Effect.{filter_of}
use Rattle.seq_state.proofs.Lists.{flat_map-append}
use Rattle.seq_sending.specs.Carrying.{let_through, of_some, copies_to, copies_onward}
use Rattle.seq_sending.specs.Ways.{copies_by_branch, copies_by_branches}
use Rattle.seq_sending.proofs.Onward.{at-end, past-filter, ends-by, to-each-one}
use Rattle.seq_sending.proofs.Sent.{one-more}
use Rattle.seq_sending.proofs.ways.+add_branches.Goals as goal

pub returns-in-Port : goal.returns-in-Port
returns-in-Port t c moment m is =
    let a = c.args in
    let was = a.branches.now.items in
    ap (copies_by_branches moment m) c.in_ok-push-in-Port.ensures.items ∙ flat_map-append (copies_by_branch moment m) was _
    ∙ ap (λ ds. copies_by_branches moment m was ++ ds)
    (append-nil _ ∙ ap (λ r. copies_by_branch moment m (record { rule = r; end = record { client = a.node.now.client; port = c.in-Port.port } })) c.copied-rule.ensures
    ∙ sym (at-end a.clients.now.clients a.graph.now moment a.hops a.node.now c.in-Port.port c.in-Port.is (let_through (option_copied a.rule) m)))

pub returns-then-hops-eq0 : goal.returns-then-hops-eq0
returns-then-hops-eq0 t c moment m is =
    let a = c.args in
    let rule = option_map (λ f. f.rule) (filter_of (FinMap.get a.clients.now.clients a.node.now.client) c.in-Filter.filter) in
    let before = let_through (option_copied a.rule) m in
    sym (append-nil (copies_by_branches moment m a.branches.now.items))
    ∙ ap (λ ds. copies_by_branches moment m a.branches.now.items ++ ds)
    (sym (past-filter a.clients.now.clients a.graph.now moment a.hops a.node.now c.in-Filter.filter rule c.in-Filter.is refl before (option_and_then (let_through rule) before) refl
    ∙ ends-by a.clients.now.clients a.graph.now moment a.hops _ c.if-hops-eq0.true (option_and_then (let_through rule) before)))

pub loop-target-preserved : goal.loop-target-preserved
loop-target-preserved t c moment m is =
    let a = c.args in
    let l = c.loop-target in
    let targets = c.targets-target-items.result.now in
    let was = copies_by_branches moment m a.branches.now.items in
    let one : Addr → List Delivery = λ node. of_some (λ x. copies_to a.clients.now.clients a.graph.now moment (a.hops - 1) node x) (let_through c.chained-chain.result m) in
    c.in_ok-add_branches.ensures moment m is
    ∙ ap (λ r. copies_by_branches moment m l.branches.items ++ of_some (λ x. copies_to a.clients.now.clients a.graph.now moment (a.hops - 1) c.target-item.result x) (let_through r m)) c.as_ref.ensures.value
    ∙ ap (λ ds. ds ++ one c.target-item.result) (l.invariant moment m is)
    ∙ append_assoc was (flat_map one (take l.target-index targets)) (one c.target-item.result)
    ∙ ap (λ ds. was ++ ds) (sym (one-more one targets l.target-index c.target-item.result c.loop-target-test.true c.target-item.is))

pub returns : goal.returns
returns t c moment m is =
    let a = c.args in
    let l = c.loop-target in
    let targets = c.targets-target-items.result.now in
    let before = let_through (option_copied a.rule) m in
    let passed = let_through c.chained-chain.result m in
    let one : Addr → List Delivery = λ node. of_some (λ x. copies_to a.clients.now.clients a.graph.now moment (a.hops - 1) node x) passed in
    l.invariant moment m is
    ∙ ap (λ ds. copies_by_branches moment m a.branches.now.items ++ ds)
    (ap (flat_map one) (take_all l.target-index targets c.loop-target-test.false)
    ∙ to-each-one a.clients.now.clients a.graph.now moment a.hops targets c.if-hops-eq0.false passed
    ∙ ap (λ ts. of_some (λ x. copies_onward a.clients.now.clients a.graph.now moment a.hops ts x) passed) c.targets-target-items.ensures
    ∙ sym (past-filter a.clients.now.clients a.graph.now moment a.hops a.node.now c.in-Filter.filter _ c.in-Filter.is c.rule.ensures before passed
    (c.chained-chain.ensures m is ∙ ap (λ r. option_and_then (let_through (option_copied c.rule.result)) (let_through r m)) c.copied.ensures)))
