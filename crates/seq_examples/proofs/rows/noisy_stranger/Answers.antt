use Rattle.seq_examples.proofs.NoisyStranger.{noisy}
use Rattle.seq_examples.proofs.rows.noisy_stranger.Goals as goal

pub returns : goal.returns
returns c = noisy
