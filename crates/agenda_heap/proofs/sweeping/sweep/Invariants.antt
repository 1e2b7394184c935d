use Rattle.std.proofs.Common.{◌++◌}
use Rattle.std.specs.BinaryHeap.{IsHeap}
use Rattle.agenda_heap.specs.Stored.{reversed_cmp, Ascends, HoldsCells}
use Rattle.agenda_heap.proofs.sweeping.sweep.Given as goal

abbrev pub invariant-loop-turn : goal.invariant-loop-turn
invariant-loop-turn l = record {
  ascends : Ascends l.ascending.items;
  order : IsHeap reversed_cmp l.heap.items;
  held : HoldsCells l.table (l.ascending.items ++ l.heap.items);
}
