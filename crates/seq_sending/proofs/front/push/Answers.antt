use Rattle.std.proofs.Common.{ap, ◌∙◌}
use Rattle.seq_sending.specs.Counts.{ways_in}
use Rattle.seq_sending.proofs.Totals.{ways-push}
use Rattle.seq_sending.proofs.front.push.Goals as goal

pub returns : goal.returns
returns g c f =
    let message = c.in_ok-message in
    ap (ways_in g.M.Carried.bytes f) c.in_ok-push.ensures.items
    ∙ ways-push g.M.Carried.bytes f c.args.entries.now.items (record { node = c.args.node.now; message = message.message; ways = c.args.ways }) (g.M.Carried.bytes c.args.message.now) message.ensures
