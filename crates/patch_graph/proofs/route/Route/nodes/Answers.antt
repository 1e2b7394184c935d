use Rattle.std.proofs.Common.{◌≤◌, length, subst, arith}
use Rattle.std.proofs.lemmas.List.{length-take}
use Rattle.patch_graph.specs.Paths.{hops}
use Rattle.patch_graph.proofs.route.Route.nodes.Goals as goal

pub returns-clause-few : goal.returns-clause-few
unfolding hops
returns-clause-few c = subst (λ xs. length xs ≤ 8) c.self.view_is (simp length-take (omega arith))
