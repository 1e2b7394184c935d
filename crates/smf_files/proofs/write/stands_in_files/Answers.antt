use Rattle.std.proofs.Common.{ap, ◌∙◌}
use Rattle.std.specs.Prelude.{nat_le}
use Rattle.smf_files.proofs.Writing.{stands-by-status}
use Rattle.smf_files.proofs.write.stands_in_files.Goals as goal

pub returns-clause-value : goal.returns-clause-value
returns-clause-value c = ap (λ s. nat_le s 240) c.status.ensures.value ∙ stands-by-status c.args.message.now c.status.ensures.message
