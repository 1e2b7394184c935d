use Rattle.std.proofs.Common.{◌≡◌, ◌∙◌, map, ap}
use Rattle.std.specs.Prelude.{string_bytes}
use Rattle.std.specs.List.{filter}
use Rattle.std.proofs.lemmas.List.Sorted.{IsPermutation-map}
use Rattle.std.specs.Ordering.{nat_cmp}
use Rattle.std.specs.Cmp.Lexicographic.{slice_cmp}
use Rattle.folder_files.proofs.Filtered.{take-all}
use Rattle.folder_files.proofs.Ordered.{sorted-map}
use Rattle.folder_files.specs.Names.{is_in_capitals}
use Rattle.folder_files.proofs.names.capital_files.Goals as goal

pub returns : goal.returns
returns c = record {
  kept =
      let kept : map string_bytes c.loop-name.capitals.items ≡ filter (is_in_capitals c.args.is_lenient) (map string_bytes c.args.names.now) =
      c.loop-name.invariant ∙ ap (λ names. filter (is_in_capitals c.args.is_lenient) (map string_bytes names)) (take-all c.loop-name.name-index c.args.names.now c.loop-name.auto.name-index-end c.loop-name-test.false) in
      rw (← kept) (IsPermutation-map string_bytes _ _ c.in_ok-sort.ensures.permutation);
  sorted = sorted-map string_bytes (slice_cmp nat_cmp) _ c.in_ok-sort.ensures.sorted;
}
