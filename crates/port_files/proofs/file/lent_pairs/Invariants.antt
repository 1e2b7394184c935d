use Rattle.std.proofs.Common.{◌≡◌, ◌++◌, map, drop}
use Rattle.smf_grammar.specs.Seen.{pair_seen}
use Rattle.port_files.specs.Seen.{capped}
use Rattle.port_files.proofs.file.lent_pairs.Given as goal

abbrev pub invariant-loop-pair : goal.invariant-loop-pair
invariant-loop-pair l = record {
  lent : map pair_seen l.lent.items ++ map capped (drop l.pair-index l.pairs) ≡ map capped l.pairs;
}
