use Rattle.std.proofs.Common.{◌≡◌, ◌++◌, map, drop}
use Rattle.std.specs.Prelude.{None, IsTrue}
use Rattle.std.specs.List.{AllByRecursion}
use Rattle.smf_grammar.specs.Seen.{pair_seen}
use Rattle.smf_grammar.specs.Written.{pairs_text, can_stand}
use Rattle.smf_files.proofs.tracks.push_pairs.Given as goal

abbrev pub invariant-loop-pair : goal.invariant-loop-pair
invariant-loop-pair l = record {
  written : l.out.items ++ pairs_text l.running (map pair_seen (drop l.pair-index l.pairs)) ≡ l.initial.out.items ++ pairs_text None (map pair_seen l.pairs);
  good : AllByRecursion (λ p. IsTrue (can_stand p)) (map pair_seen (drop l.pair-index l.pairs));
}
