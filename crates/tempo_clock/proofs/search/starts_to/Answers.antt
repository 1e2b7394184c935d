use Rattle.std.proofs.Common.{◌≡◌, true, false, leb, rules, of_calls}
use Rattle.std.specs.List.Sorted.{IsPartitionPoint}
use Rattle.std.proofs.lemmas.Fn.{always_returns_same}
use Rattle.std.proofs.lemmas.List.Sorted.{IsPartitionedBy-leb}
use Rattle.tempo_clock.proofs.BinarySearches.{cut_starts}
use Rattle.tempo_clock.proofs.search.starts_to.Goals as goal

pub returns : goal.returns
returns c =
    let xs = c.args.starts.now in
    let point : IsPartitionPoint (λ s. leb s c.args.limit ≡ true) (λ s. leb s c.args.limit ≡ false) xs c.partition_point.result
    = c.partition_point.ensures.partitioned (λ s. leb s c.args.limit) (always_returns_same _ _ _ (λ a r f k. search (rules, of_calls))) (IsPartitionedBy-leb (λ s. s) xs c.args.limit c.requires) in
    cut_starts xs c.args.limit _ c.partition_point.ensures.bound point
