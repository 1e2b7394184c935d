use Rattle.smf_mend.proofs.StrictFiles.{strict-is-lenient}
use Rattle.smf_mend.proofs.laws.strict_is_lenient.Goals as goal

pub returns : goal.returns
returns c = strict-is-lenient
