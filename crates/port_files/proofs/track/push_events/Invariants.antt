use Rattle.std.proofs.Common.{◌≡◌, ◌++◌, drop}
use Rattle.port_files.specs.Tracks.{recording_of, event_pairs}
use Rattle.port_files.proofs.track.push_events.Given as goal

abbrev pub invariant-loop-entry : goal.invariant-loop-entry
invariant-loop-entry l = record {
  pushed : l.pairs.items ++ event_pairs l.before (recording_of l.clock l.port (drop l.entry-index l.entries)) ≡ l.initial.pairs.items ++ event_pairs 0 (recording_of l.clock l.port l.entries);
}
