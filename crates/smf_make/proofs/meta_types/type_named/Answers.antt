use Rattle.std.proofs.Common.{◌∙◌, sym}
use Rattle.smf_make.proofs.NamedTypes.{among-next}
use Rattle.smf_make.proofs.meta_types.type_named.Goals as goal

pub loop-named-preserved : goal.loop-named-preserved
loop-named-preserved c = record { rest = among-next _ _ _ _ _ c.loop-named-test.true (sym c.is_named.ensures ∙ c.if-is_named.false) c.loop-named.invariant.rest }
