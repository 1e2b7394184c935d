use Rattle.std.proofs.Common.{◌≡◌, ◌++◌, List, ap, sym, subst, ◌∙◌}
use Rattle.node_table.specs.declared.number.Addr.{Addr}
use Rattle.patch_graph.specs.Paths.{hops}
use Rattle.seq_state.specs.Step.{pools_after, copies_with_room}
use Rattle.seq_sending.specs.Carrying.{copies_onward}
use Rattle.seq_sending.specs.Ways.{AreWays}
use Rattle.seq_sending.proofs.Sent.{offered-more, delivered-more}
use Rattle.seq_sending.proofs.sending.send_by_ways.Goals as goal

pub loop-message-preserved : goal.loop-message-preserved
loop-message-preserved c =
    let a = c.args in
    let l = c.loop-message in
    let i = l.invariant in
    let m = c.message-item.result in
    let was = a.clients.now in
    let sent = c.in_ok-send_message.ensures in
    let still : (targets : List Addr) → AreWays was.clients a.graph.now targets a.ways.now → AreWays l.clients.clients a.graph.now targets a.ways.now =
    λ targets are. subst (λ cs. AreWays cs a.graph.now targets a.ways.now) (sym i.clients) are in
    let same : (targets : List Addr) → copies_onward l.clients.clients a.graph.now a.moment hops targets m ≡ copies_onward was.clients a.graph.now a.moment hops targets m =
    λ targets. ap (λ cs. copies_onward cs a.graph.now a.moment hops targets m) i.clients in
    record {
      clients = sent.clients ∙ i.clients;
      pools = λ targets are. offered-more (copies_onward was.clients a.graph.now a.moment hops targets) a.messages.now l.message-index m c.loop-message-test.true c.message-item.is
          was.pools l.clients.pools _ (i.pools targets are) (sent.pools targets (still targets are) ∙ ap (pools_after l.clients.pools) (same targets));
      sent = λ targets are. delivered-more (copies_onward was.clients a.graph.now a.moment hops targets) a.messages.now l.message-index m c.loop-message-test.true c.message-item.is
          was.pools l.clients.pools a.out.now.items l.out.items _ (i.pools targets are) (i.sent targets are)
          (sent.sent targets (still targets are) ∙ ap (λ ds. l.out.items ++ copies_with_room l.clients.pools ds) (same targets));
    }
