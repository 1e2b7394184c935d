use Rattle.std.proofs.Common.{◌≡◌, length}
use Rattle.node_table.specs.Numbers.{places}
use Rattle.way_fates.specs.Counting.{AreCounts}
use Rattle.way_fates.proofs.counting.count_ways.Given as goal

-- ways along so many subscriptions
abbrev pub invariant-loop-hop : goal.invariant-loop-hop
invariant-loop-hop l = record {
  whole : length l.counts.items ≡ places;
  are : AreCounts l._hop l.graph l.counts.items;
}
