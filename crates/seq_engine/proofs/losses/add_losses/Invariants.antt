use Rattle.seq_engine.proofs.Lost.{AreAdded}
use Rattle.seq_engine.proofs.losses.add_losses.Given as goal

abbrev pub invariant-loop-number : goal.invariant-loop-number
invariant-loop-number g l = AreAdded l.engine.state l.number l.initial.losses.items l.losses.items
