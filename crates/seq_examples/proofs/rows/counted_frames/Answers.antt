use Rattle.seq_examples.proofs.CountedFrames.{run}
use Rattle.seq_examples.proofs.rows.counted_frames.Goals as goal

pub returns : goal.returns
returns c = run
