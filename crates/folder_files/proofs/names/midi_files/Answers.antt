use Rattle.std.proofs.Common.{◌≡◌, arith}
use Rattle.std.specs.Prelude.{string_bytes}
use Rattle.std.specs.List.{filter}
use Rattle.std.proofs.lemmas.Grind.{common_steps}
use Rattle.std.proofs.lemmas.Fn.{filter_same}
use Rattle.std.proofs.lemmas.List.Sorted.{IsPermutation-map}
use Rattle.folder_files.proofs.Filtered.{filter-map}
use Rattle.std.specs.Ordering.{nat_cmp}
use Rattle.std.specs.Cmp.Lexicographic.{slice_cmp}
use Rattle.folder_files.proofs.Ordered.{sorted-map}
use Rattle.folder_files.specs.Names.{is_taken}
use Rattle.folder_files.proofs.names.midi_files.Goals as goal

pub returns : goal.returns
returns c = record {
  kept =
      let kept : c.retain.new.self.items ≡ filter (λ n. is_taken c.args.is_lenient (string_bytes n)) c.args.names.items = filter_same _ (λ n. is_taken c.args.is_lenient (string_bytes n)) _ (λ x b f call. grind (arith, common_steps)) _ _ c.retain.ensures.filtered in
      rw (filter-map (is_taken c.args.is_lenient) string_bytes c.args.names.items, ← kept) (IsPermutation-map string_bytes _ _ c.in_ok-sort.ensures.permutation);
  sorted = sorted-map string_bytes (slice_cmp nat_cmp) _ c.in_ok-sort.ensures.sorted;
}
