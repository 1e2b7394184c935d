use Rattle.std.proofs.Common.{◌≡◌, ◌++◌, drop}
use Rattle.port_files.specs.Tracks.{tempo_pairs}
use Rattle.port_files.proofs.track.push_tempos.Given as goal

abbrev pub invariant-loop-entry : goal.invariant-loop-entry
invariant-loop-entry l = record {
  pushed : l.pairs.items ++ tempo_pairs l.before (drop l.entry-index l.entries) ≡ l.initial.pairs.items ++ tempo_pairs 0 l.entries;
}
