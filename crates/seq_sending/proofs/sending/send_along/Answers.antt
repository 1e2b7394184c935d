use Rattle.std.proofs.Common.{◌++◌, List, refl, sym, ap, ◌∙◌, append-nil}
use Rattle.std.specs.List.{flat_map}
use Rattle.std.proofs.lemmas.List.{drop_all}
use Rattle.seq_state.specs.declared.log.Delivery.{Delivery}
use Rattle.seq_state.specs.Step.{pools_after, copies_with_room}
use Rattle.seq_sending.specs.Ways.{copies_on}
use Rattle.seq_sending.specs.declared.ways.Way.{Way}
use Rattle.seq_sending.proofs.Sent.{sent-one}
use Rattle.seq_sending.proofs.sending.send_along.Goals as goal

pub loop-way-init : goal.loop-way-init
loop-way-init g c =
    let a = c.args in
    record {
      clients = refl;
      pools = refl;
      sent = ap (λ ds. ds ++ copies_with_room a.clients.now.pools (flat_map (copies_on a.clients.now.clients a.graph.now a.moment (g.M.Carried.bytes a.message)) a.ways.now)) c.in_ok-reserve.ensures.items;
    }

pub returns-in_err-message-clause-clients : goal.returns-in_err-message-clause-clients
returns-in_err-message-clause-clients g c = c.loop-way.invariant.clients

pub returns-in_err-send_by-clause-clients : goal.returns-in_err-send_by-clause-clients
returns-in_err-send_by-clause-clients g c = c.send_by-in-loop-way.ensures.clients ∙ c.loop-way.invariant.clients

pub loop-way-preserved : goal.loop-way-preserved
loop-way-preserved g c =
    let a = c.args in
    let l = c.loop-way in
    let sent = c.in_ok-send_by.ensures in
    let way = c.way-item-in-loop-way.result in
    let one : Way → List Delivery = λ w. copies_on a.clients.now.clients a.graph.now a.moment (g.M.Carried.bytes a.message) w in
    let same = ap (λ m. copies_on a.clients.now.clients a.graph.now a.moment m way) (sym c.in_ok-message.ensures)
    ∙ ap (λ cs. copies_on cs a.graph.now a.moment (g.M.Carried.bytes c.in_ok-message.message) way) (sym l.invariant.clients) in
    let both = sent-one one a.ways.now l.way-index way _ c.loop-way-test.true c.way-item-in-loop-way.is same l.clients.pools c.send_by-in-loop-way.new.clients.pools _ l.out.items c.send_by-in-loop-way.new.out.items _
    sent.pools sent.sent l.invariant.pools l.invariant.sent in
    record { clients = sent.clients ∙ l.invariant.clients; pools = both.0; sent = both.1 }

pub returns-clause-clients : goal.returns-clause-clients
returns-clause-clients g c = c.loop-way.invariant.clients

pub returns-clause-pools : goal.returns-clause-pools
returns-clause-pools g c =
    let a = c.args in
    let l = c.loop-way in
    let one : Way → List Delivery = λ w. copies_on a.clients.now.clients a.graph.now a.moment (g.M.Carried.bytes a.message) w in
    ap (λ ws. pools_after l.clients.pools (flat_map one ws)) (sym (drop_all l.way-index a.ways.now c.loop-way-test.false)) ∙ l.invariant.pools

pub returns-clause-sent : goal.returns-clause-sent
returns-clause-sent g c =
    let a = c.args in
    let l = c.loop-way in
    let one : Way → List Delivery = λ w. copies_on a.clients.now.clients a.graph.now a.moment (g.M.Carried.bytes a.message) w in
    sym (append-nil l.out.items)
    ∙ ap (λ ws. l.out.items ++ copies_with_room l.clients.pools (flat_map one ws)) (sym (drop_all l.way-index a.ways.now c.loop-way-test.false)) ∙ l.invariant.sent
