use Rattle.std.proofs.Common.{arith}
use Rattle.smf_files.proofs.Increasing.{tempo-in-range}
use Rattle.smf_files.proofs.track.tempo_from.Goals as goal

pub returns-clause-in_range : goal.returns-clause-in_range
returns-clause-in_range c = rw c.tempo_in.ensures (tempo-in-range c.args.payload.now (λ i. omega (arith, c.type_inv.payload i)))
