use Rattle.std.proofs.Common.{rules, ◌∙◌}
use Rattle.seq_circle.specs.Least.{reaches_out}
use Rattle.seq_circle.specs.Mattering.{matters}
use Rattle.seq_circle.proofs.ThatMatter.{reaches_nothing, place_within, pushed_more, pushed_all}
use Rattle.seq_circle.proofs.circle.apart_of.Goals as goal

pub bounds-inputs-place : goal.bounds-inputs-place
bounds-inputs-place c = place_within matters c.args.inputs.now c.args.places.now c.loop-place.place-index c.requires c.loop-place-test.true

pub offset_bounds-inputs-place : goal.offset_bounds-inputs-place
offset_bounds-inputs-place c = let within = bounds-inputs-place c in search rules

pub loop-place-preserved : goal.loop-place-preserved
loop-place-preserved c =
    pushed_more matters (reaches_out c.args.members.now.owner c.args.members.now.joined.items) c.args.inputs.now c.args.places.now c.loop-place.place-index _ _ _ _ c.requires c.loop-place-test.true
    c.index-inputs-place.is c.reaches_out.ensures c.loop-place.invariant c.in_ok-push_if.ensures

pub returns : goal.returns
returns c =
    let owner = c.args.members.now.owner in
    let joined = c.args.members.now.joined.items in
    c.loop-place.invariant
    ∙ pushed_all matters (reaches_out owner joined) (reaches_nothing owner joined) c.args.inputs.now c.args.places.now c.loop-place.place-index c.requires c.loop-place-test.false
