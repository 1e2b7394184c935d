use Rattle.std.proofs.Common.{◌++◌, ◌-◌, List, sym, ap, ◌∙◌}
use Rattle.std.specs.List.{flat_map}
use Rattle.std.proofs.lemmas.List.{take_all}
use Rattle.node_table.specs.declared.number.Addr.{Addr}
use Rattle.seq_state.specs.declared.log.Delivery.{Delivery}
use Rattle.seq_sending.specs.Carrying.{let_through, of_some, copies_to}
use Rattle.seq_sending.specs.Ways.{copies_by_branches}
use Rattle.seq_sending.proofs.Onward.{of-gated, to-each-one}
use Rattle.seq_sending.proofs.Sent.{one-more}
use Rattle.seq_sending.proofs.ways.parted.Goals as goal

pub loop-target-init : goal.loop-target-init
loop-target-init c moment m is = ap (copies_by_branches moment m) c.new-branches.ensures.items

pub loop-target-preserved : goal.loop-target-preserved
loop-target-preserved c moment m is =
    let a = c.args in
    let l = c.loop-target in
    let one : Addr → List Delivery = λ node. of_some (λ x. copies_to a.clients.now.clients a.graph.now moment (a.hops - 1) node x) (let_through a.rule m) in
    c.in_ok-add_branches.ensures moment m is
    ∙ ap (λ r. copies_by_branches moment m l.branches.items ++ of_some (λ x. copies_to a.clients.now.clients a.graph.now moment (a.hops - 1) c.target-item.result x) (let_through r m)) c.as_ref.ensures.value
    ∙ ap (λ ds. ds ++ one c.target-item.result) (l.invariant moment m is)
    ∙ sym (one-more one a.targets.now l.target-index c.target-item.result c.loop-target-test.true c.target-item.is)

pub returns-clause-copies : goal.returns-clause-copies
returns-clause-copies c edges moment m is =
    let a = c.args in
    let l = c.loop-target in
    let passed = let_through a.rule m in
    let one : Addr → List Delivery = λ node. of_some (λ x. copies_to a.clients.now.clients a.graph.now moment (a.hops - 1) node x) passed in
    of-gated _ _ passed
    (l.invariant moment m is ∙ ap (flat_map one) (take_all l.target-index a.targets.now c.loop-target-test.false) ∙ to-each-one a.clients.now.clients a.graph.now moment a.hops a.targets.now c.requires passed)
