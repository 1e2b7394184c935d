use Rattle.std.proofs.Common.{◌<◌, length, set}
use Rattle.std.specs.BinaryHeap.{lt_by_cmp}
use Rattle.std.specs.BinaryHeap.Sift.{IsHeapWithHole}
use Rattle.std.specs.List.Sorted.{IsPermutation}
use Rattle.agenda_heap.proofs.SiftLemmas.{IsAbove}
use Rattle.agenda_heap.proofs.sifting.rise.Given as goal

abbrev pub invariant-loop-hole : goal.invariant-loop-hole
invariant-loop-hole g l = record {
  within : l.hole < length l.items;
  moved : IsPermutation (set l.fn.items l.leaf l.item) (set l.items l.hole l.item);
  order : IsHeapWithHole (lt_by_cmp g.T.Ord.cmp) l.fn.items l.leaf (length l.fn.items)
      → IsHeapWithHole (lt_by_cmp g.T.Ord.cmp) l.items l.hole (length l.fn.items) × IsAbove (lt_by_cmp g.T.Ord.cmp) l.item l.items l.hole (length l.fn.items);
}

abbrev pub decreases-loop-hole : goal.decreases-loop-hole
decreases-loop-hole g l = l.hole
