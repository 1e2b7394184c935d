use Rattle.log_forms.specs.Lines.{is_space}
use Rattle.log_forms.proofs.Places.{place_is, place_within}
use Rattle.log_forms.proofs.word.word_len.Goals as goal

pub returns-clause-value : goal.returns-clause-value
returns-clause-value c = place_is is_space c.args.text.now c.first_space.result _ c.unwrap_or.ensures c.first_space.ensures

pub returns-clause-within : goal.returns-clause-within
returns-clause-within c = place_within is_space c.args.text.now _ (place_is is_space c.args.text.now c.first_space.result _ c.unwrap_or.ensures c.first_space.ensures)
