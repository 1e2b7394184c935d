use Rattle.std.proofs.Common.{◌≡◌, true, false, length, ltb, refl, rules, of_calls}
use Rattle.std.specs.List.Sorted.{IsPartitionPoint}
use Rattle.std.proofs.lemmas.Fn.{always_returns_same}
use Rattle.std.proofs.lemmas.List.Sorted.{IsPartitionedBy-ltb}
use Rattle.tempo_clock.proofs.BinarySearches.{before_ticks, before_all}
use Rattle.tempo_clock.proofs.search.entries_before.Goals as goal

pub returns : goal.returns
returns c =
    let xs = c.args.entries.now in
    let point : IsPartitionPoint (λ e. ltb e.tick c.args.tick ≡ true) (λ e. ltb e.tick c.args.tick ≡ false) xs c.partition_point.result
    = c.partition_point.ensures.partitioned (λ e. ltb e.tick c.args.tick) (always_returns_same _ _ _ (λ a r f k. search (rules, of_calls))) (IsPartitionedBy-ltb (λ e. e.tick) xs c.args.tick c.requires) in
    before_ticks xs c.args.tick _ c.partition_point.ensures.bound point

pub returns-then-entries-count : goal.returns-then-entries-count
returns-then-entries-count c =
    let xs = c.args.entries.now in
    before_all xs c.args.tick (length xs) c.requires refl c.if-count-gt0.true c.if-entries-count.true
