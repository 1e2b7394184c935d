use Rattle.smf_make.proofs.ReadFiles.{IsRewritten, file-rewritten}
use Rattle.smf_make.proofs.PrintedFiles.{makes-printed}
use Rattle.smf_make.proofs.laws.says_read.Goals as goal

pub returns : goal.returns
returns c = λ bytes f all w. (let r : IsRewritten bytes f = file-rewritten bytes f all w in record { taken = r.taken; short = r.short; said = makes-printed f r.taken })
