use Rattle.std.proofs.Common.{rules, ◌∙◌, ap, sym, arith}
use Rattle.std.specs.Prelude.{slice_index_or}
use Rattle.seq_circle.specs.Finding.{found_after}
use Rattle.seq_circle.specs.Mattering.{matters}
use Rattle.seq_circle.proofs.ThatMatter.{step_more, place_within, found_by_places}
use Rattle.seq_circle.proofs.finding.join_all.Goals as goal

pub bounds-inputs-place : goal.bounds-inputs-place
bounds-inputs-place c = place_within matters c.args.inputs.now c.args.places.now c.loop-place.place-index c.requires c.loop-place-test.true

pub offset_bounds-inputs-place : goal.offset_bounds-inputs-place
offset_bounds-inputs-place c = let within = bounds-inputs-place c in search rules

pub loop-place-preserved : goal.loop-place-preserved
loop-place-preserved c =
    let place = slice_index_or c.args.places.now c.loop-place.place-index 0 in
    let input = c.index-inputs-place.result in
    let owner = c.args.members.now.owner in
    record {
      owner = c.join_missing.ensures.owner ∙ c.loop-place.invariant.owner;
      joined = c.in_ok-join_missing.ensures.joined
          ∙ ap (λ o. found_after o c.loop-place.members.joined.items place input) c.loop-place.invariant.owner
          ∙ ap (λ joined. found_after owner joined place input) c.loop-place.invariant.joined
          ∙ sym (step_more (found_after owner) matters c.args.inputs.now c.args.members.now.joined.items c.args.places.now c.loop-place.place-index input c.requires c.loop-place-test.true c.index-inputs-place.is);
      fewer = omega (arith, c.in_ok-join_missing.ensures.fewer, c.loop-place.invariant.fewer);
    }

pub returns-clause-joined : goal.returns-clause-joined
returns-clause-joined c =
    c.loop-place.invariant.joined
    ∙ found_by_places c.args.members.now.owner c.args.members.now.joined.items c.args.inputs.now c.args.places.now c.loop-place.place-index c.requires c.loop-place-test.false
