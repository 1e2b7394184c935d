use Rattle.std.proofs.Common.{ap, map, drop, ◌++◌, ◌∙◌, ◌+◌}
use Rattle.port_files.specs.Seen.{tracks_kept}
use Rattle.port_files.specs.Tracks.{port_track}
use Rattle.port_files.proofs.Kept.{kept-more}
use Rattle.port_files.proofs.file.tracks_of.Goals as goal

pub loop-port-preserved : goal.loop-port-preserved
loop-port-preserved c = record {
  made =
      ap (λ ts. tracks_kept ts ++ map (port_track c.args.clock.now c.args.entries.now) (drop (c.loop-port.port-index + 1) c.args.ports.now)) c.in_ok-push-2.ensures.items
      ∙ kept-more (port_track c.args.clock.now c.args.entries.now) c.loop-port.tracks.items c.in_ok-port_track.field-0 c.args.ports.now c.loop-port.port-index c.port-item.result c.loop-port-test.true c.port-item.is c.in_ok-port_track.ensures
      ∙ c.loop-port.invariant.made;
}
