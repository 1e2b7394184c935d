use Rattle.tool_text.proofs.Copied.{next_written, next_status}
use Rattle.tool_text.proofs.wire.write_on.Goals as goal

pub loop-message-preserved : goal.loop-message-preserved
loop-message-preserved c =
    let was = c.loop-message.invariant in
    record {
      bytes = next_written _ _ _ _ _ _ _ _ c.loop-message-test.true c.message-item.is was.bytes was.status c.in_ok-write.ensures.ok;
      status = next_status _ _ _ _ _ _ c.loop-message-test.true c.message-item.is was.status c.in_ok-write.ensures.state;
    }
