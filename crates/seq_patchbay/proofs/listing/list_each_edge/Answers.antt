use Rattle.std.proofs.Common.{sym}
use Rattle.seq_patchbay.proofs.Texts.{edges_more}
use Rattle.seq_patchbay.proofs.listing.list_each_edge.Goals as goal

pub loop-edge-preserved : goal.loop-edge-preserved
loop-edge-preserved c =
    let e = c.edge-item.result in
    edges_more c.args.edges.now c.loop-edge.edge-index e e c.args.out.now.items c.loop-edge.out.items c.list_edge.new.out.items c.loop-edge-test.true (sym c.edge-item.is) c.loop-edge.invariant c.in_ok-list_edge.ensures
