use Rattle.std.proofs.Common.{◌≡◌, drop}
use Rattle.smf_grammar.specs.Seen.{tracks_seen}
use Rattle.smf_grammar.specs.Written.{tracks_refusal}
use Rattle.smf_files.proofs.tracks.tracks_fault.Given as goal

abbrev pub invariant-loop-track : goal.invariant-loop-track
invariant-loop-track l = record {
  refused : tracks_refusal 0 (tracks_seen l.tracks) ≡ tracks_refusal l.track (tracks_seen (drop l.track l.tracks));
}
