use Rattle.std.proofs.Common.{◌≡◌, ◌∷◌, ◌++◌, map, drop}
use Rattle.port_files.specs.Seen.{tracks_kept}
use Rattle.port_files.specs.Tracks.{tempo_track, port_track}
use Rattle.port_files.proofs.file.tracks_of.Given as goal

abbrev pub invariant-loop-port : goal.invariant-loop-port
invariant-loop-port l = record {
  made : tracks_kept l.tracks.items ++ map (port_track l.clock l.entries) (drop l.port-index l.ports) ≡ tempo_track l.clock ∷ map (port_track l.clock l.entries) l.ports;
}
