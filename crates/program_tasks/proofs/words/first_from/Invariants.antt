use Rattle.std.proofs.Common.{◌≡◌, ◌+◌, ◌-◌, ◌≤◌, length, drop}
use Rattle.std.specs.Prelude.{nat_le}
use Rattle.std.specs.List.{position_or_len}
use Rattle.program_tasks.proofs.words.first_from.Given as goal

abbrev pub invariant-loop-place : goal.invariant-loop-place
invariant-loop-place l = record {
  within : l.place ≤ length l.scripts;
  passed : l.place + position_or_len (λ s. nat_le l.client s.client) (drop l.place l.scripts)
      ≡ position_or_len (λ s. nat_le l.client s.client) l.scripts;
}

abbrev pub decreases-loop-place : goal.decreases-loop-place
decreases-loop-place l = length l.scripts - l.place
