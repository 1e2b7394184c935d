use Rattle.std.proofs.Common.{◌≡◌, ◌∙◌, map, sym, subst}
use Rattle.seq_session.specs.Merging.{AreSorted, merge_of}
use Rattle.seq_session.specs.Sessions.{script_reading}
use Rattle.seq_session.proofs.Joining.{readings_sorted}
use Rattle.session_circle.specs.declared.table.SessionCircles.{SessionCircles}
use Rattle.session_circle.specs.Found.{AreFoundAmong, AreCirclesOf}
use Rattle.session_circle.proofs.Circles.{if_ok-both, circles_of_read}
use Rattle.session_circle.proofs.table.circles_of_scripts.Goals as goal

pub circles_of_readings-requires : goal.circles_of_readings-requires
circles_of_readings-requires c =
    let reads : c.as_slice.result.now ≡ map (script_reading c.args.files.now c.args.until) c.args.scripts.now = c.as_slice.ensures.value ∙ c.in_ok-reads.ensures.readings in
    subst AreSorted (sym reads) (readings_sorted c.args.files.now c.args.until c.args.scripts.now)

pub returns-clause-circles : goal.returns-clause-circles
returns-clause-circles c =
    let reads : c.as_slice.result.now ≡ map (script_reading c.args.files.now c.args.until) c.args.scripts.now = c.as_slice.ensures.value ∙ c.in_ok-reads.ensures.readings in
    if_ok-both (λ (x : SessionCircles). x.merged ≡ merge_of c.as_slice.result.now) (λ (x : SessionCircles). AreFoundAmong x.merged.inputs c.args.scripts.now x.circles.items)
    (λ (x : SessionCircles). AreCirclesOf c.args.files.now c.args.until c.args.scripts.now x.circles.items)
    (λ x m f. circles_of_read c.args.files.now c.args.until c.args.scripts.now c.as_slice.result.now reads x m f)
    c.circles_of_readings.result c.circles_of_readings.ensures.merged c.circles_of_readings.ensures.found
