use Rattle.std.proofs.Common.{None, get_or, refl, ap, ◌∙◌}
use Rattle.seq_sending.proofs.Known.{none-more}
use Rattle.seq_sending.proofs.table.make_place.Goals as goal

pub loop-places-init : goal.loop-places-init
loop-places-init c i = refl

pub loop-places-preserved : goal.loop-places-preserved
loop-places-preserved c i = ap (λ xs. get_or xs i None) c.in_ok-push.ensures.items ∙ none-more c.loop-places.places.items i ∙ c.loop-places.invariant i

pub returns-in_err-push-clause-same : goal.returns-in_err-push-clause-same
returns-in_err-push-clause-same c i = ap (λ xs. get_or xs i None) c.in_err-push.ensures.items ∙ c.loop-places.invariant i

pub returns-clause-same : goal.returns-clause-same
returns-clause-same c = c.loop-places.invariant
