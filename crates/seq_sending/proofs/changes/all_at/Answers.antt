use Rattle.std.proofs.lemmas.List.{get_or-replicate}
use Rattle.seq_sending.proofs.changes.all_at.Goals as goal

pub returns-clause-each : goal.returns-clause-each
returns-clause-each c row low = get_or-replicate 64 row c.args.change 0 low
