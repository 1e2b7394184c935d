use Rattle.std.proofs.Common.{◌≡◌, [], ◌∷◌, ◌++◌, List, Some, ap, sym, ◌∙◌, append-nil, arith}
use Rattle.std.specs.Option.{option_to_list}
use Rattle.node_table.specs.declared.number.Addr.{Addr}
use Rattle.patch_graph.specs.Cursor.{at_port}
use Rattle.patch_graph.specs.Paths.{hops}
use Rattle.patch_graph.specs.declared.edge.Edge.{Edge}
use Rattle.seq_state.specs.Copies.{copy}
use Rattle.seq_state.specs.Step.{pools_after, copies_with_room}
use Rattle.seq_sending.specs.Carrying.{copies_onward}
use Rattle.seq_sending.specs.Ways.{AreWays}
use Rattle.seq_sending.specs.declared.ways.Way.TheVariants.{Straight}
use Rattle.seq_sending.proofs.Sent.{offered-more, delivered-more}
use Rattle.seq_sending.proofs.sending.send_straight.Goals as goal

pub loop-message-preserved : goal.loop-message-preserved
loop-message-preserved c =
    let a = c.args in
    let l = c.loop-message in
    let i = l.invariant in
    let m = c.message-item.result in
    let was = a.clients.now in
    let sent = c.in_ok-deliver_reserved.ensures in
    let same : (edges : List Edge) (targets : List Addr) → AreWays was.clients edges targets (Straight a.end ∷ []) →
    option_to_list (copy a.moment (at_port a.end) (Some c.in_ok-duplicate.field-0)) ≡ copies_onward was.clients edges a.moment hops targets m =
    λ edges targets are.
    ap (λ x. option_to_list (copy a.moment (at_port a.end) (Some x))) c.in_ok-duplicate.ensures.ok
    ∙ sym (append-nil (option_to_list (copy a.moment (at_port a.end) (Some m))))
    ∙ are a.moment m c.duplicate.ensures.message in
    record {
      clients = sent.clients ∙ i.clients;
      pools = λ edges targets are. offered-more (copies_onward was.clients edges a.moment hops targets) a.messages.now l.message-index m c.loop-message-test.true c.message-item.is
          was.pools l.clients.pools _ (i.pools edges targets are) (sent.pools ∙ ap (pools_after l.clients.pools) (same edges targets are));
      sent = λ edges targets are. delivered-more (copies_onward was.clients edges a.moment hops targets) a.messages.now l.message-index m c.loop-message-test.true c.message-item.is
          was.pools l.clients.pools a.out.now.items l.out.items _ (i.pools edges targets are) (i.sent edges targets are)
          (sent.sent ∙ ap (λ ds. l.out.items ++ copies_with_room l.clients.pools ds) (same edges targets are));
      room = omega (arith, i.room, sent.one, sent.capacity);
    }
