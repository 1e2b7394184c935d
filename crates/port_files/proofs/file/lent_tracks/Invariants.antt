use Rattle.std.proofs.Common.{◌≡◌, ◌++◌, map, drop}
use Rattle.smf_grammar.specs.Seen.{tracks_seen}
use Rattle.port_files.specs.Seen.{capped, tracks_kept}
use Rattle.port_files.proofs.file.lent_tracks.Given as goal

abbrev pub invariant-loop-pairs : goal.invariant-loop-pairs
invariant-loop-pairs l = record {
  lent : tracks_seen l.lent.items ++ map (map capped) (tracks_kept (drop l.pairs-index l.tracks)) ≡ map (map capped) (tracks_kept l.tracks);
}
