use Rattle.std.proofs.Common.{◌<◌, ◌-◌, length, set}
use Rattle.std.specs.BinaryHeap.{lt_by_cmp}
use Rattle.std.specs.BinaryHeap.Sift.{IsHeapWithHole}
use Rattle.std.specs.List.Sorted.{IsPermutation}
use Rattle.agenda_heap.proofs.sifting.settle.Given as goal

abbrev pub invariant-loop-hole : goal.invariant-loop-hole
invariant-loop-hole g l = record {
  within : l.hole < length l.items;
  moved : IsPermutation l.fn.items (set l.items l.hole l.item);
  order : IsHeapWithHole (lt_by_cmp g.T.Ord.cmp) l.fn.items l.place (length l.fn.items)
      → IsHeapWithHole (lt_by_cmp g.T.Ord.cmp) l.items l.hole (length l.fn.items);
}

abbrev pub decreases-loop-hole : goal.decreases-loop-hole
decreases-loop-hole g l = length l.items - l.hole
