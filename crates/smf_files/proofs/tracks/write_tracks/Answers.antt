use Rattle.std.proofs.Common.{◌≡◌, arith, refl, rules}
use Rattle.std.specs.Prelude.{IfErr}
use Rattle.smf_files.specs.declared.fault.TracksFault.TheVariants.{OutOfMemory}
use Rattle.smf_files.specs.Refusals.{told_of_tracks}
use Rattle.smf_files.proofs.Writing.{nothing-refused}
use Rattle.smf_files.proofs.WritingTracks.{too-large, accepted, back}
use Rattle.smf_files.proofs.tracks.write_tracks.Goals as goal

pub returns-in_default-tracks_size-clause-refused : goal.returns-in_default-tracks_size-clause-refused
returns-in_default-tracks_size-clause-refused c =
    too-large c.args.format c.args.division c.args.tracks.now (record { header = c.in_default.ensures; pairs = c.in_default-tracks_fault.ensures }) c.in_default-tracks_size.ensures

pub returns-in_err-written-clause-refused : goal.returns-in_err-written-clause-refused
returns-in_err-written-clause-refused c =
    let only : IfErr c.from_residual.result (λ x. x ≡ OutOfMemory) = search rules in
    nothing-refused told_of_tracks OutOfMemory c.from_residual.result _ refl only
    (accepted c.args.format c.args.division c.args.tracks.now (record { header = c.in_default.ensures; pairs = c.in_default-tracks_fault.ensures }) (omega (arith, c.in-Some-tracks_size.ensures.0, c.in-Some-tracks_size.ensures.1)))

pub returns-clause-taken : goal.returns-clause-taken
returns-clause-taken c =
    accepted c.args.format c.args.division c.args.tracks.now (record { header = c.in_default.ensures; pairs = c.in_default-tracks_fault.ensures }) (omega (arith, c.in-Some-tracks_size.ensures.0, c.in-Some-tracks_size.ensures.1))

pub returns-clause-reads_back : goal.returns-clause-reads_back
returns-clause-reads_back c =
    back c.args.format c.args.division c.args.tracks.now _ (record { header = c.in_default.ensures; pairs = c.in_default-tracks_fault.ensures }) (omega (arith, c.in-Some-tracks_size.ensures.0, c.in-Some-tracks_size.ensures.1)) c.in_ok-written.ensures
