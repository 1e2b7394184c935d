use Rattle.std.proofs.Common.{◌++◌, ◌-◌, List, Some, sym, ap, ◌∙◌, append-nil, arith}
use Rattle.std.specs.Option.{option_map}
use Rattle.std.specs.FinMap
use Rattle.std.specs.List.{flat_map}
use Rattle.std.proofs.lemmas.List.{drop_all}
use Rattle.node_table.specs.declared.number.Addr.{Addr}
use Rattle.seq_state.specs.declared.log.Delivery.{Delivery}
use Rattle.seq_state.specs.Effect.{filter_of}
use Rattle.seq_state.specs.Step.{pools_after, copies_with_room}
use Rattle.seq_sending.specs.Carrying.{copies_to, copies_onward}
use Rattle.seq_sending.proofs.Sent.{spread-none, spread-hops, to-filter, to-none, to-only, sent-one}
use Rattle.seq_sending.proofs.sending.+spread.Goals as goal

-- ---- to a node

pub send_to-returns-then-hops-eq0-clause-pools : goal.send_to-returns-then-hops-eq0-clause-pools
send_to-returns-then-hops-eq0-clause-pools g t c =
    let a = c.args in
    let l = c.loop-node in
    ap (λ cs. cs.pools) l.invariant.clients
    ∙ ap (pools_after a.clients.now.pools) (sym (to-none a.clients.now.clients a.graph.now a.moment l.hops l.node.now (g.M.Carried.bytes l.message) c.in-Filter.filter c.in-Filter.is c.if-hops-eq0.true) ∙ l.invariant.same)

pub send_to-returns-then-hops-eq0-clause-sent : goal.send_to-returns-then-hops-eq0-clause-sent
send_to-returns-then-hops-eq0-clause-sent g t c =
    let a = c.args in
    let l = c.loop-node in
    ap (λ v. v.items) l.invariant.out ∙ sym (append-nil a.out.now.items)
    ∙ ap (λ ds. a.out.now.items ++ copies_with_room a.clients.now.pools ds) (sym (to-none a.clients.now.clients a.graph.now a.moment l.hops l.node.now (g.M.Carried.bytes l.message) c.in-Filter.filter c.in-Filter.is c.if-hops-eq0.true) ∙ l.invariant.same)

pub send_to-loop-node-preserved : goal.send_to-loop-node-preserved
send_to-loop-node-preserved g t c =
    let a = c.args in
    let l = c.loop-node in
    let now = a.clients.now.clients in
    record {
      hops = omega arith;
      clients = l.invariant.clients;
      out = l.invariant.out;
      same =
          sym (to-only now a.graph.now a.moment l.hops c.targets.result.now c.next-item.result (g.M.Carried.bytes c.in-Some.passed) (omega arith) (omega arith) c.next-item.is c.if-hops-eq0.false)
          ∙ ap (λ ts. copies_onward now a.graph.now a.moment l.hops ts (g.M.Carried.bytes c.in-Some.passed)) c.targets.ensures
          ∙ sym (to-filter now a.graph.now a.moment l.hops l.node.now (g.M.Carried.bytes l.message) c.in-Filter.filter c.in-Filter.is _ (c.rule.ensures ∙ ap (λ cs. option_map (λ f. f.rule) (filter_of (FinMap.get cs.clients l.node.now.client) c.in-Filter.filter)) l.invariant.clients)
          (Some (g.M.Carried.bytes c.in-Some.passed)) (ap (option_map g.M.Carried.bytes) (sym c.in-Some.is) ∙ c.through-passed.ensures))
          ∙ l.invariant.same;
    }

-- ---- to one node after another

pub spread-returns-then-hops-eq0-clause-pools : goal.spread-returns-then-hops-eq0-clause-pools
spread-returns-then-hops-eq0-clause-pools g t c =
    let a = c.args in
    sym (ap (pools_after a.clients.now.pools) (spread-none a.clients.now.clients a.graph.now a.moment a.hops a.targets.now (g.M.Carried.bytes a.message) c.if-hops-eq0.true))

pub spread-returns-then-hops-eq0-clause-sent : goal.spread-returns-then-hops-eq0-clause-sent
spread-returns-then-hops-eq0-clause-sent g t c =
    let a = c.args in
    sym (append-nil a.out.now.items)
    ∙ sym (ap (λ ds. a.out.now.items ++ copies_with_room a.clients.now.pools ds) (spread-none a.clients.now.clients a.graph.now a.moment a.hops a.targets.now (g.M.Carried.bytes a.message) c.if-hops-eq0.true))

pub spread-loop-target-preserved : goal.spread-loop-target-preserved
spread-loop-target-preserved g t c =
    let a = c.args in
    let l = c.loop-target in
    let sent = c.in_ok-send_to.ensures in
    let target = c.target-item.result in
    let one : Addr → List Delivery = λ node. copies_to a.clients.now.clients a.graph.now a.moment (a.hops - 1) node (g.M.Carried.bytes a.message) in
    let same = ap (copies_to a.clients.now.clients a.graph.now a.moment (a.hops - 1) target) (sym c.in_ok-message.ensures)
    ∙ ap (λ cs. copies_to cs a.graph.now a.moment (a.hops - 1) target (g.M.Carried.bytes c.in_ok-message.message)) (sym l.invariant.clients) in
    let both = sent-one one a.targets.now l.target-index target _ c.loop-target-test.true c.target-item.is same l.clients.pools c.send_to.new.clients.pools _ l.out.items c.send_to.new.out.items _
    sent.pools sent.sent l.invariant.pools l.invariant.sent in
    record { clients = sent.clients ∙ l.invariant.clients; pools = both.0; sent = both.1 }

pub spread-returns-clause-pools : goal.spread-returns-clause-pools
spread-returns-clause-pools g t c =
    let a = c.args in
    let l = c.loop-target in
    let one : Addr → List Delivery = λ node. copies_to a.clients.now.clients a.graph.now a.moment (a.hops - 1) node (g.M.Carried.bytes a.message) in
    ap (λ ts. pools_after l.clients.pools (flat_map one ts)) (sym (drop_all l.target-index a.targets.now c.loop-target-test.false))
    ∙ l.invariant.pools
    ∙ ap (pools_after a.clients.now.pools) (sym (spread-hops a.clients.now.clients a.graph.now a.moment a.hops a.targets.now (g.M.Carried.bytes a.message) c.if-hops-eq0.false))

pub spread-returns-clause-sent : goal.spread-returns-clause-sent
spread-returns-clause-sent g t c =
    let a = c.args in
    let l = c.loop-target in
    let one : Addr → List Delivery = λ node. copies_to a.clients.now.clients a.graph.now a.moment (a.hops - 1) node (g.M.Carried.bytes a.message) in
    sym (append-nil l.out.items)
    ∙ ap (λ ts. l.out.items ++ copies_with_room l.clients.pools (flat_map one ts)) (sym (drop_all l.target-index a.targets.now c.loop-target-test.false))
    ∙ l.invariant.sent
    ∙ ap (λ ds. a.out.now.items ++ copies_with_room a.clients.now.pools ds) (sym (spread-hops a.clients.now.clients a.graph.now a.moment a.hops a.targets.now (g.M.Carried.bytes a.message) c.if-hops-eq0.false))
