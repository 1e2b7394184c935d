use Rattle.std.proofs.Common.{◌∙◌}
use Rattle.log_forms.proofs.Numbers.{is_number-long}
use Rattle.log_forms.proofs.word.is_number.Goals as goal

pub returns-then-first-ne48 : goal.returns-then-first-ne48
returns-then-first-ne48 c = c.are_digits.ensures ∙ is_number-long c.args.word.now c.in-len1-up.len_at_least c.if-first-ne48.true
