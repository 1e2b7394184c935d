use Rattle.std.proofs.Common.{◌≡◌, arith, subst, sym}
use Rattle.session_circle.specs.declared.every_end.TheConstants.{NO_END}
use Rattle.session_circle.specs.Found.{AreForEveryEnd, IsToldForEveryEnd}
use Rattle.program_tasks.specs.Circles.{AreCirclesFound}
use Rattle.program_tasks.proofs.Endless.{all_found_for_every_end}
use Rattle.program_tasks.proofs.tabling.circles_found.Goals as goal

pub returns-in-Found-clause-found : goal.returns-in-Found-clause-found
returns-in-Found-clause-found c =
    let folder = c.args.files.now in
    let scripts = c.args.scripts.now in
    let told : AreForEveryEnd folder scripts c.in-Found.found = subst (IsToldForEveryEnd folder scripts (AreForEveryEnd folder scripts)) c.in-Found.is c.in_ok-found.ensures in
    let endless : c.args.until ≡ NO_END = omega (arith, c.if-until-lt-NO_END.false, c.ranges.until.fits) in
    subst (λ n. AreCirclesFound folder n scripts c.in-Found.found) (sym endless) (all_found_for_every_end folder scripts c.in-Found.found told)
