use Rattle.smf_text.proofs.Placed.{same-without-places, one-placed-text}
use Rattle.smf_text.proofs.laws.places_add_nothing_else.Goals as goal

pub returns-clause-same : goal.returns-clause-same
returns-clause-same c = same-without-places

pub returns-clause-one : goal.returns-clause-one
returns-clause-one c = one-placed-text
