use Rattle.std.proofs.Common.{◌<◌, ◌^◌, rules, arith, refl, inr}
use Rattle.smf_grammar.specs.Seen.{header_seen}
use Rattle.smf_mend.proofs.GrownFile.{outgrown, mended}
use Rattle.smf_mend.proofs.mending.mend.Goals as goal

pub returns-then-out-clause-refused : goal.returns-then-out-clause-refused
returns-then-out-clause-refused c = λ _.
    inr (refl, outgrown c.args.bytes.now c.in_ok-header.after.now (header_seen c.in_ok-header.header) _ c.mend_tracks.new.tally c.in-Ok.out c.mend_tracks.new.out c.in_ok-header.ensures.value c.in-Ok.ensures.grown c.in_ok-mend_tracks.ensures.ok c.if-out.true)

pub returns-clause-mended : goal.returns-clause-mended
returns-clause-mended c =
    let few : c.in_ok-header.header.tracks < 2 ^ 16 = search rules in
    mended c.args.bytes.now c.in_ok-header.after.now (header_seen c.in_ok-header.header) _ c.mend_tracks.new.tally c.in-Ok.out c.mend_tracks.new.out c.in_ok-header.ensures.value c.in-Ok.ensures.grown c.in_ok-mend_tracks.ensures.ok (omega arith) refl refl c.if-out.false
