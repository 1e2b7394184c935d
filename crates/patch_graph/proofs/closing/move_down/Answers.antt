use Rattle.std.proofs.Common.{◌≡◌, ◌+◌, ◌-◌, List, length, drop, ap, ◌∙◌, arith}
use Rattle.std.proofs.Math.Seq.{paste}
use borrow.Rule.Slice.PartMut.{mid_of}
use Rattle.patch_graph.proofs.Closed.{lowered_part}
use Rattle.patch_graph.proofs.closing.move_down.Goals as goal

pub returns-clause-rest : goal.returns-clause-rest
returns-clause-rest g c =
    let part : List g.row.T.Denot = mid_of c.args.place (length c.args.items.now - c.args.place) c.args.items.now in
    let many : (1 + g.row.N) - 1 ≡ g.row.N = omega arith in
    lowered_part c.args.items.now c.copy_within.new.self c.args.place g.row.N c.requires (c.copy_within.ensures.after ∙ ap (paste part 0 (drop 1 part)) many)
