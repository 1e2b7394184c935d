use Rattle.std.proofs.Common.{◌≡◌, arith, subst, sym}
use Rattle.session_circle.specs.declared.every_end.TheConstants.{NO_END}
use Rattle.session_circle.specs.Found.{IsForEveryEnd, IsToldForEveryEnd}
use Rattle.program_tasks.specs.Circles.{IsCircleFound}
use Rattle.program_tasks.proofs.Endless.{found_for_every_end}
use Rattle.program_tasks.proofs.circling.circle_found.Goals as goal

pub returns-in-Found-clause-found : goal.returns-in-Found-clause-found
returns-in-Found-clause-found c =
    let folder = c.args.files.now in
    let scripts = c.args.scripts.now in
    let told : IsForEveryEnd folder scripts c.args.owner c.in-Found.found = subst (IsToldForEveryEnd folder scripts (IsForEveryEnd folder scripts c.args.owner)) c.in-Found.is c.in_ok-found.ensures in
    let endless : c.args.until ≡ NO_END = omega (arith, c.if-until-lt-NO_END.false, c.ranges.until.fits) in
    subst (λ n. IsCircleFound folder n scripts c.args.owner c.in-Found.found) (sym endless) (found_for_every_end folder scripts c.args.owner c.in-Found.found told)
