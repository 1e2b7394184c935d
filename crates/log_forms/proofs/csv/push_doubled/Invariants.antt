use Rattle.std.proofs.Common.{◌≡◌, ◌++◌, length}
use Rattle.std.specs.List.{flat_map}
use Rattle.log_forms.specs.Csv.{doubled}
use Rattle.log_forms.proofs.csv.push_doubled.Given as goal

-- with what is left, it is the whole
abbrev pub invariant-loop-at : goal.invariant-loop-at
invariant-loop-at l = l.out.items ++ flat_map doubled l.rest ≡ l.initial.out.items ++ flat_map doubled l.text

abbrev pub decreases-loop-at : goal.decreases-loop-at
decreases-loop-at l = length l.rest
