use Rattle.script_text.specs.Words.{is_blank}
use Rattle.script_text.proofs.Places.{place_is, place_within}
use Rattle.script_text.proofs.words.longer_word_len.Goals as goal

pub returns-clause-value : goal.returns-clause-value
returns-clause-value c = place_is is_blank c.args.bytes.now c.first_blank.result _ c.unwrap_or.ensures c.first_blank.ensures

pub returns-clause-within : goal.returns-clause-within
returns-clause-within c = place_within is_blank c.args.bytes.now _ (place_is is_blank c.args.bytes.now c.first_blank.result _ c.unwrap_or.ensures c.first_blank.ensures)
