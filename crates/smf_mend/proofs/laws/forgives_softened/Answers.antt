use Rattle.smf_mend.proofs.Softened.{forgives-softened}
use Rattle.smf_mend.proofs.laws.forgives_softened.Goals as goal

pub returns : goal.returns
returns c = forgives-softened
