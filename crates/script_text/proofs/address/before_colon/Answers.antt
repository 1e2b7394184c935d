use Rattle.script_text.specs.Words.{is_colon}
use Rattle.script_text.proofs.Places.{place_is, place_within}
use Rattle.script_text.proofs.address.before_colon.Goals as goal

pub returns-clause-value : goal.returns-clause-value
returns-clause-value c = place_is is_colon c.args.word.now c.first_colon.result _ c.unwrap_or.ensures c.first_colon.ensures

pub returns-clause-within : goal.returns-clause-within
returns-clause-within c = place_within is_colon c.args.word.now _ (place_is is_colon c.args.word.now c.first_colon.result _ c.unwrap_or.ensures c.first_colon.ensures)
