use Rattle.std.proofs.Common.{◌≤◌, ◌+◌, ◌-◌, length}
use Rattle.std.specs.List.Sorted.{IsPermutation}
use Rattle.smf_files.specs.Playing.{IsHeapFrom}
use Rattle.smf_files.proofs.Heaps.{HasHole}
use Rattle.smf_files.proofs.heads.sink.Given as goal

abbrev pub invariant-down : goal.invariant-down
invariant-down l = record {
  order : IsHeapFrom (l.from + 1) l.initial.heads → HasHole l.heads l.from l.at;
  permutation : IsPermutation l.initial.heads l.heads;
  below : l.from ≤ l.at;
}

abbrev pub decreases-down : goal.decreases-down
decreases-down l = length l.heads - l.at
