use Rattle.std.proofs.Common.{◌≡◌, ◌<◌, length}
use Rattle.std.specs.List.{remove}
use Rattle.patch_graph.proofs.closing.lift.Given as goal

abbrev pub invariant-loop-at : goal.invariant-loop-at
invariant-loop-at g l = record {
  within : l.at < length l.nodes;
  node_count : length l.nodes ≡ length l.fn.nodes;
  age_count : length l.ages ≡ length l.fn.ages;
  nodes : remove l.nodes l.at ≡ remove l.fn.nodes l.place;
  ages : remove l.ages l.at ≡ remove l.fn.ages l.place;
}

abbrev pub decreases-loop-at : goal.decreases-loop-at
decreases-loop-at g l = l.at
