use Rattle.std.proofs.Common.{◌∙◌}
use Rattle.std.proofs.lemmas.List.{take_min, drop_min}
use Rattle.script_text.specs.declared.script.TheConstants.{MOST_FILES}
use Rattle.program_tasks.proofs.names.taken_files.Goals as goal

pub returns-clause-taken : goal.returns-clause-taken
returns-clause-taken c = c.split_at.ensures.front ∙ rw c.min.ensures (take_min MOST_FILES c.args.files.now)

pub returns-clause-left_out : goal.returns-clause-left_out
returns-clause-left_out c = c.split_at.ensures.back ∙ rw c.min.ensures (drop_min MOST_FILES c.args.files.now)
