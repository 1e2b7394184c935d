use Rattle.std.proofs.Common.{◌+◌, ◌-◌, length, None}
use Rattle.node_table.specs.Kept.{ReadsAs}
use Rattle.seq_sending.proofs.table.make_place.Given as goal

abbrev pub invariant-loop-places : goal.invariant-loop-places
invariant-loop-places l = ReadsAs None l.places.items l.fn.places.items

abbrev pub decreases-loop-places : goal.decreases-loop-places
decreases-loop-places l = l.place + 1 - length l.places.items
