use Rattle.smf_make.proofs.PrintedFiles.{makes-printed}
use Rattle.smf_make.proofs.laws.makes_printed.Goals as goal

pub returns : goal.returns
returns c = makes-printed
