use Rattle.std.proofs.Common.{◌≡◌, ◌<◌, ◌≤◌, ◌-◌, length}
use Rattle.std.specs.List.{remove}
use Rattle.patch_graph.proofs.closing.lower.Given as goal

abbrev pub invariant-loop-left : goal.invariant-loop-left
invariant-loop-left g l = record {
  some : 0 < l.left;
  within : l.left ≤ length l.nodes;
  node_count : length l.nodes ≡ length l.fn.nodes;
  age_count : length l.ages ≡ length l.fn.ages;
  nodes : remove l.nodes (length l.fn.nodes - l.left) ≡ remove l.fn.nodes (length l.fn.nodes - l.rest);
  ages : remove l.ages (length l.fn.nodes - l.left) ≡ remove l.fn.ages (length l.fn.nodes - l.rest);
}

abbrev pub decreases-loop-left : goal.decreases-loop-left
decreases-loop-left g l = l.left
