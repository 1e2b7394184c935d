use Rattle.smf_grammar.proofs.Septets.{quantity-septets}
use Rattle.smf_grammar.proofs.pair.quantity_at.Goals as goal

pub returns-clause-value : goal.returns-clause-value
returns-clause-value c = rw quantity-septets c.first_byte_at.ensures.value
