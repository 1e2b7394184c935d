use Rattle.std.proofs.Common.{◌≡◌, ◌++◌, ap, sym, subst, ◌∙◌}
use Rattle.patch_graph.specs.Index.{targets_of}
use Rattle.patch_graph.specs.Paths.{hops}
use Rattle.seq_state.specs.Step.{pools_after, copies_with_room}
use Rattle.seq_sending.specs.Carrying.{copies_onward}
use Rattle.seq_sending.specs.KeptCounts.{AreCountsKept}
use Rattle.seq_sending.specs.Ways.{AreWays}
use Rattle.seq_sending.proofs.Sent.{offered-more, delivered-more}
use Rattle.seq_sending.proofs.counted.send_all_counted.Goals as goal

pub loop-message-preserved : goal.loop-message-preserved
loop-message-preserved c =
    let a = c.args in
    let l = c.loop-message in
    let i = l.invariant in
    let m = c.message-item.result in
    let was = a.clients.now in
    let targets = targets_of a.graph.now a.source.now in
    let sent = c.in_ok-send_counted.ensures in
    let same : copies_onward l.clients.clients a.graph.now a.moment hops targets m ≡ copies_onward was.clients a.graph.now a.moment hops targets m =
    ap (λ cs. copies_onward cs a.graph.now a.moment hops targets m) i.clients in
    record {
      counts = subst (λ cs. AreCountsKept cs a.graph.now c.send_counted.new.kept.kept.items) i.clients c.send_counted.ensures.counts;
      clients = sent.clients ∙ i.clients;
      pools = offered-more (copies_onward was.clients a.graph.now a.moment hops targets) a.messages.now l.message-index m c.loop-message-test.true c.message-item.is
          was.pools l.clients.pools _ i.pools (sent.pools ∙ ap (pools_after l.clients.pools) same);
      sent = delivered-more (copies_onward was.clients a.graph.now a.moment hops targets) a.messages.now l.message-index m c.loop-message-test.true c.message-item.is
          was.pools l.clients.pools a.out.now.items l.out.items _ i.pools i.sent
          (sent.sent ∙ ap (λ ds. l.out.items ++ copies_with_room l.clients.pools ds) same);
    }

pub send_counted-requires-clause-ways : goal.send_counted-requires-clause-ways
send_counted-requires-clause-ways c =
    let a = c.args in
    subst (λ cs. AreWays cs a.graph.now (targets_of a.graph.now a.source.now) a.ways.now) (sym c.loop-message.invariant.clients) c.requires.ways

pub send_counted-requires-clause-counts : goal.send_counted-requires-clause-counts
send_counted-requires-clause-counts c =
    subst (λ cs. AreCountsKept cs c.args.graph.now c.loop-message.kept.kept.items) (sym c.loop-message.invariant.clients) c.loop-message.invariant.counts

pub returns-in_err-send_counted-clause-counts : goal.returns-in_err-send_counted-clause-counts
returns-in_err-send_counted-clause-counts c =
    subst (λ cs. AreCountsKept cs c.args.graph.now c.send_counted.new.kept.kept.items) c.loop-message.invariant.clients c.send_counted.ensures.counts
