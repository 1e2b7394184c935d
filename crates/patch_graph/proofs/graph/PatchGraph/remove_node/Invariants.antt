use Rattle.std.proofs.Common.{◌≡◌, [], not, length}
use Rattle.std.specs.List.{filter}
use Rattle.patch_graph.specs.Edges.{touches}
use Rattle.patch_graph.specs.Index.{targets_of}
use Rattle.patch_graph.proofs.graph.PatchGraph.remove_node.Given as goal

abbrev pub invariant-loop : goal.invariant-loop
invariant-loop l = filter (λ e. not (touches l.node e)) l.self ≡ filter (λ e. not (touches l.node e)) l.fn.self

abbrev pub decreases-loop : goal.decreases-loop
decreases-loop l = length l.self

abbrev pub invariant-loop-2 : goal.invariant-loop-2
invariant-loop-2 l =
    (filter (λ e. not (touches l.node e)) l.self ≡ filter (λ e. not (touches l.node e)) l.fn.self) × (targets_of l.self l.node ≡ [])

abbrev pub decreases-loop-2 : goal.decreases-loop-2
decreases-loop-2 l = length l.self
