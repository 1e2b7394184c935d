use Rattle.std.proofs.Common.{◌<◌, ◌∙◌, length, false, refl, arith}
use Rattle.memory.proofs.Outcomes.{on_err}
use Rattle.smf_grammar.specs.Seen.{chunk_seen}
use Rattle.smf_text.proofs.Walked.{all-to-come, none-to-come, coming-fault, coming-other, coming-whole, coming-next, coming-stops}
use Rattle.smf_text.proofs.walk.print_tracks.Goals as goal

pub tracks-init : goal.tracks-init
tracks-init g c = record {
  coming = λ w. all-to-come g.W.Sink.HasTaken _ _ _ _ _ _ _ w (c.requires.headed w);
  within = c.requires.within;
  unmarked = c.requires.sound;
  eager = refl;
}

pub unreachable-requires : goal.unreachable-requires
unreachable-requires g c =
    let more : c.tracks.track < length c.args.file.now.tracks = omega arith in
    coming-fault g.W.Sink.HasTaken _ _ _ _ _ _ _ _ _ more _ (c.tracks.invariant.coming c.requires.file) c.in-Err.ensures.value

pub print_track-requires-clause-whole : goal.print_track-requires-clause-whole
print_track-requires-clause-whole g c =
    let more : c.tracks.track < length c.args.file.now.tracks = omega arith in
    coming-whole g.W.Sink.HasTaken _ _ _ _ _ _ _ _ _ more _ (chunk_seen c.in-Ok.found.0) c.in-Ok.ensures.value (c.tracks.invariant.coming c.requires.file) c.if-chunk.true

pub returns-in_err-print_track-clause-short : goal.returns-in_err-print_track-clause-short
returns-in_err-print_track-clause-short g c =
    let more : c.tracks.track < length c.args.file.now.tracks = omega arith in
    on_err c.from_residual.result
    (λ w. coming-stops g.W.Sink.HasTaken _ _ _ _ _ _ _ _ _ more _ (chunk_seen c.in-Ok.found.0) c.in-Ok.ensures.value (c.tracks.invariant.coming w) c.if-chunk.true _ c.in_err-print_track.ensures.short)

pub tracks-preserved-in_ok-print_track : goal.tracks-preserved-in_ok-print_track
tracks-preserved-in_ok-print_track g c =
    let more : c.tracks.track < length c.args.file.now.tracks = omega arith in
    record {
      coming = λ w. coming-next g.W.Sink.HasTaken _ _ _ _ _ _ _ _ _ more _ (chunk_seen c.in-Ok.found.0) c.in-Ok.ensures.value (c.tracks.invariant.coming w) c.if-chunk.true _ _ c.in_ok-print_track.ensures.sent;
      within = omega (arith, c.in-Ok.ensures.shorter);
      unmarked = c.in_ok-print_track.ensures.marks.unmarked (refl {a = false});
      eager = c.print_track.ensures.marks.eager ∙ c.tracks.invariant.eager;
    }

pub tracks-preserved : goal.tracks-preserved
tracks-preserved g c =
    let more : c.tracks.track < length c.args.file.now.tracks = omega arith in
    record {
      coming = λ w. coming-other g.W.Sink.HasTaken _ _ _ _ _ _ _ _ _ more _ (chunk_seen c.in-Ok.found.0) c.in-Ok.ensures.value (c.tracks.invariant.coming w) c.if-chunk.false;
      within = omega (arith, c.in-Ok.ensures.shorter);
      unmarked = c.tracks.invariant.unmarked;
      eager = c.tracks.invariant.eager;
    }

pub returns-clause-sent : goal.returns-clause-sent
returns-clause-sent g c = λ w. none-to-come g.W.Sink.HasTaken _ _ _ _ _ _ _ _ _ (c.tracks.invariant.coming w) (omega arith)
