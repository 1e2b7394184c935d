use Rattle.std.proofs.Common.{length}
use Rattle.seq_patchbay.proofs.Gone.{IsAsBefore}
use Rattle.seq_patchbay.proofs.patchbay.Patchbay.end_into_client.Given as goal

abbrev pub invariant-loop-number : goal.invariant-loop-number
invariant-loop-number l = IsAsBefore l.fn.client l.fn.self l.self

abbrev pub invariant-loop-number-2 : goal.invariant-loop-number-2
invariant-loop-number-2 l = IsAsBefore l.fn.client l.fn.self l.self

abbrev pub invariant-loop-edge : goal.invariant-loop-edge
invariant-loop-edge l = IsAsBefore l.fn.client l.fn.self l.self

abbrev pub decreases-loop-edge : goal.decreases-loop-edge
decreases-loop-edge l = length l.self.graph
