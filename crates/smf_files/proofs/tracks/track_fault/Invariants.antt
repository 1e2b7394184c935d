use Rattle.std.proofs.Common.{◌≡◌, map, drop}
use Rattle.smf_grammar.specs.Seen.{pair_seen}
use Rattle.smf_grammar.specs.Written.{track_refusal}
use Rattle.smf_files.proofs.tracks.track_fault.Given as goal

abbrev pub invariant-loop-pair : goal.invariant-loop-pair
invariant-loop-pair l = record {
  refused : track_refusal l.track 0 (map pair_seen l.pairs) ≡ track_refusal l.track l.pair (map pair_seen (drop l.pair l.pairs));
}
