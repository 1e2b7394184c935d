use Rattle.seq_circle.specs.Mattering.{matters}
use Rattle.seq_circle.proofs.Places.{places-pushed}
use Rattle.seq_circle.proofs.mattering.places_that_matter.Goals as goal

pub loop-place-preserved : goal.loop-place-preserved
loop-place-preserved c =
    places-pushed matters c.args.inputs.now c.loop-place.place _ _ _ _ c.loop-place-test.true c.index-inputs-place.is c.matters.ensures c.loop-place.invariant
    c.in_ok-push_if.ensures
