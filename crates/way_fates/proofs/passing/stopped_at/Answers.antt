use Rattle.std.proofs.Common.{arith}
use Rattle.way_fates.proofs.Passed.{past-node, stopped-there, past-all}
use Rattle.way_fates.proofs.passing.stopped_at.Goals as goal

pub loop-node-preserved : goal.loop-node-preserved
loop-node-preserved c =
    past-node c.args.clients.now.clients c.args.nodes.now c.args.message.now c.loop-node.node-index c.node-item.result c.loop-node.carried c.in-Ok.passed c.loop-node-test.true c.node-item.is c.in-Ok.ensures.passed c.loop-node.invariant

pub returns-in-Err : goal.returns-in-Err
returns-in-Err c =
    stopped-there c.args.clients.now.clients c.args.nodes.now c.args.message.now c.loop-node.node-index c.node-item.result c.loop-node.carried c.in-Err.why c.loop-node-test.true c.node-item.is c.in-Err.ensures.stopped c.loop-node.invariant

pub returns : goal.returns
returns c = past-all c.args.clients.now.clients c.args.nodes.now c.args.message.now c.loop-node.node-index c.loop-node.carried (omega arith) c.loop-node.invariant
