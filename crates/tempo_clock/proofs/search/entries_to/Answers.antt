use Rattle.std.proofs.Common.{◌≡◌, true, false, leb, rules, of_calls}
use Rattle.std.specs.List.Sorted.{IsPartitionPoint}
use Rattle.std.proofs.lemmas.Fn.{always_returns_same}
use Rattle.std.proofs.lemmas.List.Sorted.{IsPartitionedBy-leb}
use Rattle.tempo_clock.proofs.BinarySearches.{cut_ticks}
use Rattle.tempo_clock.proofs.search.entries_to.Goals as goal

pub returns : goal.returns
returns c =
    let xs = c.args.entries.now in
    let point : IsPartitionPoint (λ e. leb e.tick c.args.tick ≡ true) (λ e. leb e.tick c.args.tick ≡ false) xs c.partition_point.result
    = c.partition_point.ensures.partitioned (λ e. leb e.tick c.args.tick) (always_returns_same _ _ _ (λ a r f k. search (rules, of_calls))) (IsPartitionedBy-leb (λ e. e.tick) xs c.args.tick c.requires) in
    cut_ticks xs c.args.tick _ c.partition_point.ensures.bound point
