use Rattle.std.proofs.Common.{sym, ◌∙◌}
use Rattle.seq_session.proofs.Named.{none_made, one_made}
use Rattle.seq_session.proofs.made_caps.note_made.Goals as goal

pub returns-in_default-clause-noted : goal.returns-in_default-clause-noted
returns-in_default-clause-noted c before kept =
    none_made c.args.inputs.now before c.args.entry.now c.args.table.now.items (sym c.made_in.ensures ∙ c.in_default.is) kept

pub returns-clause-noted : goal.returns-clause-noted
returns-clause-noted c before kept =
    let at = c.place_of.ensures.place in
    one_made c.args.inputs.now before c.args.entry.now c.args.table.now.items c.in-Some.made at.0 c.place_of.result (sym c.made_in.ensures ∙ c.in-Some.is) at.1 c.requires kept
