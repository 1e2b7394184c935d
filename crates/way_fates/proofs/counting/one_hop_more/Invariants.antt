use Rattle.std.proofs.Common.{◌≡◌, ℕ, suc, length}
use Rattle.way_fates.specs.Counting.{AreCounts}
use Rattle.way_fates.proofs.Counted.{AreCountsBelow}
use Rattle.way_fates.proofs.counting.one_hop_more.Given as goal

abbrev pub invariant-loop-place : goal.invariant-loop-place
invariant-loop-place l = record {
  whole : length l.more.items ≡ l.place;
  below : (n : ℕ) → AreCounts n l.graph l.counts → AreCountsBelow (suc n) l.graph l.place l.more.items;
}
