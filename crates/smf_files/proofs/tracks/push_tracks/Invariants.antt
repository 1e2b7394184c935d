use Rattle.std.proofs.Common.{◌≡◌, ◌≤◌, ◌++◌, length, drop}
use Rattle.std.specs.Prelude.{None}
use Rattle.smf_grammar.specs.Seen.{tracks_seen}
use Rattle.smf_grammar.specs.Written.{tracks_text, tracks_refusal}
use Rattle.smf_files.specs.declared.tracks.TheConstants.{MOST_TRACK_BYTES}
use Rattle.smf_files.proofs.tracks.push_tracks.Given as goal

abbrev pub invariant-loop-pairs : goal.invariant-loop-pairs
invariant-loop-pairs l = record {
  written : l.out.items ++ tracks_text (tracks_seen (drop l.pairs-index l.tracks)) ≡ l.initial.out.items ++ tracks_text (tracks_seen l.tracks);
  good : tracks_refusal l.pairs-index (tracks_seen (drop l.pairs-index l.tracks)) ≡ None;
  small : length (tracks_text (tracks_seen (drop l.pairs-index l.tracks))) ≤ MOST_TRACK_BYTES;
}
