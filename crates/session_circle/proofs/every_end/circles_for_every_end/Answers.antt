use Rattle.std.proofs.Common.{◌∙◌, sym, subst}
use Rattle.seq_session.specs.Merging.{AreSorted}
use Rattle.seq_session.proofs.Joining.{readings_sorted}
use Rattle.session_circle.specs.declared.every_end.TheConstants.{NO_END}
use Rattle.session_circle.specs.EveryEnd.{AreForward}
use Rattle.session_circle.specs.Found.{IsToldForEveryEnd}
use Rattle.session_circle.proofs.Circles.{all_for_every_end}
use Rattle.session_circle.proofs.every_end.circles_for_every_end.Goals as goal

pub circles_of_readings-requires : goal.circles_of_readings-requires
circles_of_readings-requires c =
    let forward : AreForward c.args.files.now c.args.scripts.now c.in-Found.reads.items =
    subst (IsToldForEveryEnd c.args.files.now c.args.scripts.now (λ reads. AreForward c.args.files.now c.args.scripts.now reads.items)) c.in-Found.is c.in_ok-reads.ensures in
    subst AreSorted (sym (c.as_slice.ensures.value ∙ forward.reads_are)) (readings_sorted c.args.files.now NO_END c.args.scripts.now)

pub returns-in_ok-found-in-Found : goal.returns-in_ok-found-in-Found
returns-in_ok-found-in-Found c =
    let forward : AreForward c.args.files.now c.args.scripts.now c.in-Found.reads.items =
    subst (IsToldForEveryEnd c.args.files.now c.args.scripts.now (λ reads. AreForward c.args.files.now c.args.scripts.now reads.items)) c.in-Found.is c.in_ok-reads.ensures in
    all_for_every_end c.args.files.now c.args.scripts.now c.in_ok-found-in-Found.found c.as_slice.result.now
    (subst (AreForward c.args.files.now c.args.scripts.now) (sym c.as_slice.ensures.value) forward) c.in_ok-found-in-Found.ensures.merged c.in_ok-found-in-Found.ensures.found
