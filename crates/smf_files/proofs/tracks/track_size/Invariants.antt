use Rattle.std.proofs.Common.{◌≡◌, ◌≤◌, ◌+◌, length, map, drop}
use Rattle.std.specs.Prelude.{None}
use Rattle.smf_grammar.specs.Seen.{pair_seen}
use Rattle.smf_grammar.specs.Written.{pairs_text}
use Rattle.smf_files.specs.declared.tracks.TheConstants.{MOST_TRACK_BYTES}
use Rattle.smf_files.proofs.tracks.track_size.Given as goal

abbrev pub invariant-loop-pair : goal.invariant-loop-pair
invariant-loop-pair l = record {
  measured : l.size + length (pairs_text l.running (map pair_seen (drop l.pair-index l.pairs))) ≡ length (pairs_text None (map pair_seen l.pairs));
  small : l.size ≤ MOST_TRACK_BYTES;
}
