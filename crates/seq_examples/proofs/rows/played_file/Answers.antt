use Rattle.seq_examples.proofs.PlayedFile.{run}
use Rattle.seq_examples.proofs.rows.played_file.Goals as goal

pub returns : goal.returns
returns c = run
