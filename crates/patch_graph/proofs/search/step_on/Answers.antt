use Rattle.patch_graph.proofs.Stepped.{stands_on}
use Rattle.patch_graph.proofs.search.step_on.Goals as goal

pub returns-then-ages-next-clause-stands : goal.returns-then-ages-next-clause-stands
returns-then-ages-next-clause-stands g c before = stands_on c.args.ages.now c.args.age c.args.place g.row.N c.requires.rising c.if-next-ages.true c.if-ages-next.true before
