use Rattle.std.proofs.Common.{◌∙◌, sym, length, ◌-◌}
use Rattle.std.proofs.lemmas.Bool.{ltb-true}
use Rattle.seq_session.proofs.Wrong.{fault_there}
use Rattle.seq_session.proofs.diagnosing.fault_at.Goals as goal

pub returns : goal.returns
returns c =
    c.line_fault.ensures
    ∙ sym (fault_there c.args.lines.now c.args.number c.in_ok-line.line.now c.if-number-eq0.false (ltb-true (c.args.number - 1) (length c.args.lines.now) (sym c.in_ok-line.ensures.lookup.0)) c.in_ok-line.ensures.lookup.1)
