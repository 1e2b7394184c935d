use Rattle.std.proofs.Common.{◌∙◌, arith}
use Rattle.seq_session.proofs.Ports.{one_digit, two_digits}
use Rattle.seq_session.proofs.moment.overwrite_port.Goals as goal

pub returns-then-number-lt10-clause-written : goal.returns-then-number-lt10-clause-written
returns-then-number-lt10-clause-written c =
    c.overwrite.ensures.written ∙ one_digit _ c.args.port _ c.number-number.ensures.value (omega arith)

pub returns-clause-written : goal.returns-clause-written
returns-clause-written c =
    c.overwrite-2.ensures.written ∙ two_digits _ c.args.port _ c.number-number.ensures.value (omega arith) (omega arith)
