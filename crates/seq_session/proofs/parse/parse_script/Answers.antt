use Rattle.seq_session.proofs.Joining.{script_is_sorted}
use Rattle.seq_session.proofs.parse.parse_script.Goals as goal

pub returns-clause-sorted : goal.returns-clause-sorted
returns-clause-sorted c =
    script_is_sorted c.args.client _ c.args.until c.args.text.now c.parse_script.result c.parse_script.ensures
