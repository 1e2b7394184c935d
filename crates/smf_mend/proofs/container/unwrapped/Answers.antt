use Rattle.std.proofs.Common.{◌∙◌, sym}
use Rattle.smf_mend.proofs.Contained.{no-container, content-in, nothing-in}
use Rattle.smf_mend.proofs.container.unwrapped.Goals as goal

pub returns-then-not-is_rmid : goal.returns-then-not-is_rmid
returns-then-not-is_rmid c = no-container c.args.bytes.now (sym c.is_rmid.ensures.value ∙ c.if-not-is_rmid.true)

pub returns-in-Some : goal.returns-in-Some
returns-in-Some c = content-in c.args.bytes.now c.in-Some.content.now (sym c.is_rmid.ensures.value ∙ c.if-not-is_rmid.false) c.in-Some.ensures

pub returns-in-None : goal.returns-in-None
returns-in-None c = nothing-in c.args.bytes.now (sym c.is_rmid.ensures.value ∙ c.if-not-is_rmid.false) c.in-None.ensures
