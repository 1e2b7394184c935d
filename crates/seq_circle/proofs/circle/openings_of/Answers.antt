use Rattle.std.proofs.Common.{rules, ◌∙◌}
use Rattle.seq_circle.specs.Least.{opens_circle}
use Rattle.seq_circle.specs.Mattering.{matters}
use Rattle.seq_circle.proofs.ThatMatter.{opens_none, place_within, pushed_more, pushed_all}
use Rattle.seq_circle.proofs.circle.openings_of.Goals as goal

pub bounds-inputs-place : goal.bounds-inputs-place
bounds-inputs-place c = place_within matters c.args.inputs.now c.args.places.now c.loop-place.place-index c.requires c.loop-place-test.true

pub offset_bounds-inputs-place : goal.offset_bounds-inputs-place
offset_bounds-inputs-place c = let within = bounds-inputs-place c in search rules

pub loop-place-preserved : goal.loop-place-preserved
loop-place-preserved c =
    pushed_more matters (opens_circle c.args.members.now.owner c.args.members.now.joined.items) c.args.inputs.now c.args.places.now c.loop-place.place-index _ _ _ _ c.requires c.loop-place-test.true
    c.index-inputs-place.is c.opens_circle.ensures c.loop-place.invariant c.in_ok-push_if.ensures

pub returns : goal.returns
returns c =
    let owner = c.args.members.now.owner in
    let joined = c.args.members.now.joined.items in
    c.loop-place.invariant
    ∙ pushed_all matters (opens_circle owner joined) (opens_none owner joined) c.args.inputs.now c.args.places.now c.loop-place.place-index c.requires c.loop-place-test.false
