use Rattle.patch_graph.proofs.Walked.{coming-routes}
use Rattle.patch_graph.proofs.graph.PatchGraph.routes.Goals as goal

pub returns : goal.returns
returns c = coming-routes c.args.self.now c.args.from.now _ _ _ c.targets.ensures
