use Rattle.std.proofs.Common.{◌+◌, length}
use Rattle.agenda_heap.specs.Stored.{IsStored}
use Rattle.agenda_heap.proofs.heap.first_live.Given as goal

abbrev pub invariant-loop-least : goal.invariant-loop-least
invariant-loop-least l = IsStored l.table l.ascending.items l.heap.items

abbrev pub decreases-loop-least : goal.decreases-loop-least
decreases-loop-least l = length l.ascending.items + length l.heap.items
