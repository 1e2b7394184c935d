use Rattle.std.proofs.Common.{◌≡◌, not, length}
use Rattle.std.specs.List.{filter}
use Rattle.patch_graph.specs.Edges.{touches}
use Rattle.seq_patchbay.proofs.patchbay.Patchbay.end_into.Given as goal

abbrev pub invariant-loop : goal.invariant-loop
invariant-loop l =
    (l.self.clients ≡ l.fn.self.clients)
    × (filter (λ e. not (touches l.node e)) l.self.graph ≡ filter (λ e. not (touches l.node e)) l.fn.self.graph)

abbrev pub decreases-loop : goal.decreases-loop
decreases-loop l = length l.self.graph
