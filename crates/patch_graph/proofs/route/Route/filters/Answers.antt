use Rattle.std.proofs.Common.{◌≤◌, length, sym, ◌∙◌, arith}
use Rattle.patch_graph.proofs.Ended.{some_end, front_is}
use Rattle.patch_graph.proofs.route.Route.filters.Goals as goal

pub returns-clause-front : goal.returns-clause-front
returns-clause-front c =
    let few : c.self.inside.count ≤ length c.self.inside.nodes = omega arith in
    let e = some_end c.self.inside.nodes c.self.inside.count few c.self.invariant.2 in
    (e.0, sym c.self.view_is ∙ e.1)

pub returns-clause-all : goal.returns-clause-all
returns-clause-all c =
    let few : c.self.inside.count ≤ length c.self.inside.nodes = omega arith in
    front_is c.self.inside.nodes c.self.inside.count few c.self.invariant.2
