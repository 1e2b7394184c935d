use Rattle.std.proofs.Common.{arith}
use Rattle.smf_grammar.specs.Seen.{chunk_seen}
use Rattle.smf_mend.proofs.LenientTracks.{below-more}
use Rattle.smf_mend.proofs.GrownFile.{other-written, track-written}
use Rattle.smf_mend.proofs.soft_tracks.mend_tracks.Goals as goal

pub chunks-preserved : goal.chunks-preserved
chunks-preserved c = record {
  written = other-written _ _ _ _ _ _ _ c.chunks.tally _ _ c.chunks.out (chunk_seen c.in-Ok.found.0) c.chunks.invariant.written c.in-Ok.ensures.value c.if-chunk.false;
  within = omega (arith, c.in-Ok.ensures.shorter);
  few = c.chunks.invariant.few;
  below = below-more c.chunks.tally _ _ c.chunks.invariant.below (omega (arith, c.in-Ok.ensures.shorter));
  room = c.chunks.invariant.room;
}

pub chunks-preserved-in_ok-mend_track : goal.chunks-preserved-in_ok-mend_track
chunks-preserved-in_ok-mend_track c = record {
  written = track-written _ _ _ _ _ _ _ _ _ _ _ (chunk_seen c.in-Ok.found.0) c.chunks.invariant.written c.in-Ok.ensures.value c.if-chunk.true c.in_ok-mend_track.ensures.ok;
  within = omega (arith, c.in-Ok.ensures.shorter);
  few = omega (arith, c.chunks-test.true);
  below = below-more c.mend_track.new.tally _ _ c.in_ok-mend_track.ensures.few (omega (arith, c.in-Ok.ensures.shorter));
  room = c.in_ok-mend_track.ensures.ok.small;
}
