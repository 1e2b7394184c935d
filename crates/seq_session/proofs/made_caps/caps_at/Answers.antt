use Rattle.seq_session.proofs.Named.{read_there, read_past}
use Rattle.seq_session.proofs.made_caps.caps_at.Goals as goal

pub returns-in-Some : goal.returns-in-Some
returns-in-Some c made kept =
    let at = c.place_of.ensures.place in
    read_there made c.args.table.now c.args.node.now at.0 c.place_of.result c.in-Some.caps.now kept at.1 c.in-Some.ensures.lookup.0 c.in-Some.ensures.lookup.1

pub returns-in-None : goal.returns-in-None
returns-in-None c made kept =
    let at = c.place_of.ensures.place in
    read_past made c.args.table.now c.args.node.now at.0 c.place_of.result kept at.1 c.in-None.ensures.lookup.0
