use Rattle.std.proofs.Common.{◌≤◌, ◌-◌, length, take, sym, ◌∙◌, arith}
use Rattle.patch_graph.proofs.Ended.{whole, at_end, end_is, has_port, port_is}
use Rattle.patch_graph.proofs.route.Route.last.Goals as goal

pub unwrap-requires : goal.unwrap-requires
unwrap-requires c =
    let few : c.self.inside.count ≤ length c.self.inside.nodes = omega arith in
    has_port _ _ (at_end c.self.inside.nodes c.self.inside.count few c.self.invariant.2 c.index-self-self.result) c.port.ensures.filter

pub returns : goal.returns
returns c =
    let few : c.self.inside.count ≤ length c.self.inside.nodes = omega arith in (
      take (c.self.inside.count - 1) c.self.inside.nodes,
      end_is _ _ _ _ (sym c.self.view_is ∙ whole c.self.inside.nodes c.self.inside.count few c.self.invariant.2 c.index-self-self.result) (port_is _ _ _ c.port.ensures.port c.unwrap.ensures),
    )
