use Rattle.std.proofs.Common.{◌+◌, ◌-◌, length}
use Rattle.seq_sending.proofs.hints.Hints.note_later.Given as goal

abbrev pub invariant-loop-self : goal.invariant-loop-self
invariant-loop-self l = Unit {0}

abbrev pub decreases-loop-self : goal.decreases-loop-self
decreases-loop-self l = l.place + 1 - length l.self.rows.items
