use Rattle.smf_mend.proofs.Behind.{counted}
use Rattle.smf_mend.proofs.soft_pair.are_counted.Goals as goal

pub returns : goal.returns
returns c = counted c.args.bytes.now c.type_inv.bytes c.requires
