use Rattle.std.proofs.Common.{◌≡◌, ◌≤◌, ◌+◌, length, drop}
use Rattle.smf_grammar.specs.Seen.{tracks_seen}
use Rattle.smf_grammar.specs.Written.{tracks_text}
use Rattle.smf_files.specs.declared.tracks.TheConstants.{MOST_TRACK_BYTES}
use Rattle.smf_files.proofs.tracks.tracks_size.Given as goal

abbrev pub invariant-loop-pairs : goal.invariant-loop-pairs
invariant-loop-pairs l = record {
  measured : l.size + length (tracks_text (tracks_seen (drop l.pairs-index l.tracks))) ≡ length (tracks_text (tracks_seen l.tracks));
  small : l.size ≤ MOST_TRACK_BYTES;
}
