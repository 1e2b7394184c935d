use Rattle.script_text.proofs.Places.{place_is, place_within}
use Rattle.program_tasks.specs.Times.{is_no_digit}
use Rattle.program_tasks.proofs.times.digits_len.Goals as goal

pub returns-clause-value : goal.returns-clause-value
returns-clause-value c = place_is is_no_digit c.args.word.now c.first_other.result _ c.unwrap_or.ensures c.first_other.ensures

pub returns-clause-within : goal.returns-clause-within
returns-clause-within c = place_within is_no_digit c.args.word.now _ (place_is is_no_digit c.args.word.now c.first_other.result _ c.unwrap_or.ensures c.first_other.ensures)
