use Rattle.std.proofs.Common.{arith}
use Rattle.way_fates.proofs.Counted.{count-more, count-all}
use Rattle.way_fates.proofs.counting.count_on.Goals as goal

pub loop-node-preserved : goal.loop-node-preserved
loop-node-preserved c n edges are =
    count-more n edges c.args.nodes.now c.loop-node.node-index c.loop-node.total c.count_through.result _ c.node-item.result c.loop-node-test.true c.node-item.is (c.loop-node.invariant n edges are) (c.count_through.ensures n edges are) c.saturating_add-total.ensures

pub returns : goal.returns
returns c n edges are = count-all n edges c.args.nodes.now c.loop-node.node-index c.loop-node.total (omega arith) (c.loop-node.invariant n edges are)
