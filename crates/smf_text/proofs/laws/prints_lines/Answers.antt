use Rattle.smf_text.proofs.Unbroken.{line-for-each}
use Rattle.smf_text.proofs.laws.prints_lines.Goals as goal

pub returns : goal.returns
returns c = line-for-each
