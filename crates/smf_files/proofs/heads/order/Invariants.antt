use Rattle.std.specs.List.Sorted.{IsPermutation}
use Rattle.smf_files.specs.Playing.{IsHeapFrom}
use Rattle.smf_files.proofs.heads.order.Given as goal

abbrev pub invariant-up : goal.invariant-up
invariant-up l = record {
  order : IsHeapFrom l.from l.heads;
  permutation : IsPermutation l.initial.heads l.heads;
}

abbrev pub decreases-up : goal.decreases-up
decreases-up l = l.from
