use Rattle.std.proofs.Common.{◌≡◌, ◌+◌, ◌-◌, drop, ap, ◌∙◌, arith}
use Rattle.std.specs.List.{remove}
use Rattle.std.proofs.Math.Seq.{paste}
use Rattle.patch_graph.proofs.Closed.{lifted}
use Rattle.patch_graph.proofs.closing.move_up.Goals as goal

pub returns-clause-rest : goal.returns-clause-rest
returns-clause-rest g c =
    let many : (c.args.place + g.row.N) - c.args.place ≡ g.row.N = omega arith in
    ap (λ ys. remove ys c.args.place) (c.copy_within.ensures.after ∙ ap (paste c.args.items.now (c.args.place + 1) (drop c.args.place c.args.items.now)) many)
    ∙ lifted c.args.items.now c.args.place g.row.N (c.args.place + 1) (c.args.place + g.row.N) (omega arith) (omega arith) c.requires
