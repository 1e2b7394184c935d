use Rattle.std.proofs.Common.{◌≡◌, ◌≤◌, ◌+◌, ◌-◌, length, take}
use Rattle.patch_graph.specs.Found.{with_filters}
use Rattle.patch_graph.proofs.found.Found.add_filters.Given as goal

abbrev pub invariant-loop-done : goal.invariant-loop-done
invariant-loop-done l = record { within : l.done ≤ length l.nodes; added : l.self ≡ with_filters l.fn.self (take l.done l.nodes) }

abbrev pub decreases-loop-done : goal.decreases-loop-done
decreases-loop-done l = length l.nodes - l.done

abbrev pub invariant-loop-step : goal.invariant-loop-step
invariant-loop-step l = l.self ≡ with_filters l.fn.self (take (l.done + l.step) l.nodes)

abbrev pub invariant-loop-turn : goal.invariant-loop-turn
invariant-loop-turn l = l.self ≡ with_filters l.fn.self (take l.turn l.nodes)
