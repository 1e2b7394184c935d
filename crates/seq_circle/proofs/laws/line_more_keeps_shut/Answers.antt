use Rattle.seq_circle.proofs.LineMore.{line_more_law}
use Rattle.seq_circle.proofs.laws.line_more_keeps_shut.Goals as goal

pub returns : goal.returns
returns c = line_more_law
