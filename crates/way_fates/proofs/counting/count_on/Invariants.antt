use Rattle.std.proofs.Common.{◌≡◌, ℕ, List, take}
use Rattle.std.specs.List.{sum_by}
use Rattle.patch_graph.specs.declared.edge.Edge.{Edge}
use Rattle.way_fates.specs.Counting.{AreCounts, ways_through, up_to_most}
use Rattle.way_fates.proofs.counting.count_on.Given as goal

abbrev pub invariant-loop-node : goal.invariant-loop-node
invariant-loop-node l = (n : ℕ) (edges : List Edge) → AreCounts n edges l.counts → l.total ≡ up_to_most (sum_by (ways_through n edges) (take l.node-index l.nodes))
