use Rattle.std.proofs.Common.{◌∙◌, ap}
use Rattle.std.specs.Prelude.{is_some, not}
use Rattle.smf_check.proofs.Forgiving.{first-some, second-some, none-forgiven, some-forgiven}
use Rattle.smf_check.proofs.verdict.mended_verdict.Goals.{else-is_none-via-then-is_none+else-is_none-2, else-is_none-via-else-is_none}
use Rattle.smf_check.proofs.verdict.mended_verdict.Goals as goal

pub returns-then-is_none-2 : goal.returns-then-is_none-2
returns-then-is_none-2 c = none-forgiven c.args.mended.now (c.is_none.ensures ∙ ap not c.if-is_none.true) (c.is_none-then-is_none.ensures ∙ ap not c.if-is_none-2.true)

pub returns : goal.returns
returns c = some-forgiven c.args.mended.now (elim c.else-is_none.branch [
  | else-is_none-via-then-is_none+else-is_none-2 w ↦ second-some (is_some c.args.mended.now.running_status) (is_some c.args.mended.now.high_data) (w.is_none-then-is_none.ensures ∙ ap not w.if-is_none-2.false)
  | else-is_none-via-else-is_none w ↦ first-some (is_some c.args.mended.now.running_status) (is_some c.args.mended.now.high_data) (c.is_none.ensures ∙ ap not w.if-is_none.false)
])
