use Rattle.std.proofs.Common.{◌≡◌, [], ◌∙◌, map, sym, subst}
use Rattle.seq_circle.specs.Least.{is_member}
use Rattle.seq_session.specs.Merging.{AreSorted, merge_of}
use Rattle.seq_session.specs.Sessions.{script_reading}
use Rattle.seq_session.proofs.Joining.{readings_sorted}
use Rattle.session_circle.specs.declared.circle.SessionCircle.{SessionCircle}
use Rattle.session_circle.specs.Found.{IsFoundAmong}
use Rattle.session_circle.specs.Laws.{NoScriptMatters, NoByteChanges, AreOutside}
use Rattle.session_circle.proofs.Circles.{if_ok-both, circle_of_read, outside_of_read}
use Rattle.session_circle.proofs.circle.circle_of_scripts.Goals as goal

pub circle_of_readings-requires : goal.circle_of_readings-requires
circle_of_readings-requires c =
    let reads : c.as_slice.result.now ≡ map (script_reading c.args.files.now c.args.until) c.args.scripts.now = c.as_slice.ensures.value ∙ c.in_ok-reads.ensures.readings in
    subst AreSorted (sym reads) (readings_sorted c.args.files.now c.args.until c.args.scripts.now)

pub returns-clause-shut : goal.returns-clause-shut
returns-clause-shut c =
    let reads : c.as_slice.result.now ≡ map (script_reading c.args.files.now c.args.until) c.args.scripts.now = c.as_slice.ensures.value ∙ c.in_ok-reads.ensures.readings in
    if_ok-both (λ (x : SessionCircle). x.merged ≡ merge_of c.as_slice.result.now) (λ (x : SessionCircle). IsFoundAmong x.merged.inputs c.args.owner x.circle)
    (λ (x : SessionCircle). x.circle.openings.items ≡ [] → NoScriptMatters c.args.files.now c.args.until c.args.scripts.now c.args.owner (is_member c.args.owner x.circle.joined.items))
    (λ x m f. (circle_of_read c.args.files.now c.args.until c.args.scripts.now c.as_slice.result.now reads x.merged m c.args.owner x.circle f).shut)
    c.circle_of_readings.result c.circle_of_readings.ensures.merged c.circle_of_readings.ensures.found

pub returns-clause-outside : goal.returns-clause-outside
returns-clause-outside c =
    let reads : c.as_slice.result.now ≡ map (script_reading c.args.files.now c.args.until) c.args.scripts.now = c.as_slice.ensures.value ∙ c.in_ok-reads.ensures.readings in
    if_ok-both (λ (x : SessionCircle). x.merged ≡ merge_of c.as_slice.result.now) (λ (x : SessionCircle). IsFoundAmong x.merged.inputs c.args.owner x.circle)
    (λ (x : SessionCircle). AreOutside c.args.files.now c.args.until c.args.scripts.now c.args.owner (is_member c.args.owner x.circle.joined.items) x.merged.lines x.circle.apart.items)
    (λ x m f. outside_of_read c.args.files.now c.args.until c.args.scripts.now c.as_slice.result.now reads x.merged m c.args.owner x.circle f)
    c.circle_of_readings.result c.circle_of_readings.ensures.merged c.circle_of_readings.ensures.found

pub returns-clause-every_byte : goal.returns-clause-every_byte
returns-clause-every_byte c =
    let reads : c.as_slice.result.now ≡ map (script_reading c.args.files.now c.args.until) c.args.scripts.now = c.as_slice.ensures.value ∙ c.in_ok-reads.ensures.readings in
    if_ok-both (λ (x : SessionCircle). x.merged ≡ merge_of c.as_slice.result.now) (λ (x : SessionCircle). IsFoundAmong x.merged.inputs c.args.owner x.circle)
    (λ (x : SessionCircle). x.circle.openings.items ≡ [] → x.circle.apart.items ≡ [] → NoByteChanges c.args.files.now c.args.until c.args.scripts.now c.args.owner (is_member c.args.owner x.circle.joined.items))
    (λ x m f. (circle_of_read c.args.files.now c.args.until c.args.scripts.now c.as_slice.result.now reads x.merged m c.args.owner x.circle f).every_byte)
    c.circle_of_readings.result c.circle_of_readings.ensures.merged c.circle_of_readings.ensures.found
