use Rattle.std.proofs.Common.{true, false, refl, subst}
use Rattle.clap.specs.Matches.{found_of}
use Rattle.midiseq.specs.Given.{IsAsked}
use Rattle.midiseq.proofs.reasons.told.Goals as goal

pub returns-then-is_asked : goal.returns-then-is_asked
returns-then-is_asked g c = record { explains = true; asked = subst (IsAsked (found_of c.args.found.now)) c.if-is_asked.true c.is_asked.ensures; is = c.reasoned.ensures }

pub returns-else-is_asked : goal.returns-else-is_asked
returns-else-is_asked g c = record { explains = false; asked = subst (IsAsked (found_of c.args.found.now)) c.if-is_asked.false c.is_asked.ensures; is = refl }
