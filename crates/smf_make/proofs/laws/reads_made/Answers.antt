use Rattle.smf_make.proofs.MadeFiles.{reads-made}
use Rattle.smf_make.proofs.laws.reads_made.Goals as goal

pub returns : goal.returns
returns c = reads-made
