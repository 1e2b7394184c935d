use Rattle.std.proofs.Common.{◌≡◌, ◌≤◌, ℕ, true, take}
use Rattle.seq_sending.specs.Changes.{last_change}
use Rattle.seq_sending.specs.Reach.{is_among}
use Rattle.seq_sending.proofs.changes.Changes.are_unchanged.Given as goal

abbrev pub invariant-loop-other : goal.invariant-loop-other
invariant-loop-other l = (c : ℕ) → is_among (take l.other-index l.passed) c ≡ true → last_change l.self c ≤ l.at
