use Rattle.script_text.specs.Numbers.{is_digit}
use Rattle.script_text.proofs.Places.{place_is, place_within}
use Rattle.program_tasks.proofs.times.unit_len.Goals as goal

pub returns-clause-value : goal.returns-clause-value
returns-clause-value c = place_is is_digit c.args.word.now c.first_digit.result _ c.unwrap_or.ensures c.first_digit.ensures

pub returns-clause-within : goal.returns-clause-within
returns-clause-within c = place_within is_digit c.args.word.now _ (place_is is_digit c.args.word.now c.first_digit.result _ c.unwrap_or.ensures c.first_digit.ensures)
