use Rattle.std.proofs.Common.{arith}
use Rattle.patch_graph.proofs.Closed.{part_closed}
use Rattle.patch_graph.proofs.closing.close_upward.Goals as goal

pub returns-clause-nodes : goal.returns-clause-nodes
returns-clause-nodes c = part_closed c.args.nodes.now.len c.args.nodes.now.items c.deref_mut.result.now c.lift_all.new.nodes c.args.first c.args.place c.args.nodes.now.ok.0 c.deref_mut.ensures.value c.requires.within.0 c.requires.within.1 c.lift_all.ensures.node_count c.lift_all.ensures.nodes

pub returns-clause-ages : goal.returns-clause-ages
returns-clause-ages c = part_closed c.args.ages.now.len c.args.ages.now.items c.deref_mut-2.result.now c.lift_all.new.ages c.args.first c.args.place c.args.ages.now.ok.0 c.deref_mut-2.ensures.value c.requires.within.0 (omega (arith, c.requires.within.1, c.requires.beside)) c.lift_all.ensures.age_count c.lift_all.ensures.ages
