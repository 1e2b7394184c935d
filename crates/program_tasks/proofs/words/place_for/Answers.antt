use Rattle.std.proofs.Common.{◌≤◌, length}
use Rattle.program_tasks.proofs.Places.{place_taken, place_of_another, place_at_end}
use Rattle.program_tasks.proofs.words.place_for.Goals as goal

pub returns-in-Some-clause-place : goal.returns-in-Some-clause-place
returns-in-Some-clause-place c = λ path.
    let at = c.in-Some.ensures.lookup in
    place_taken (c.args.client, path) _ _ c.in-Some.there.now c.first_from-place.ensures.place at.3.0 at.1 c.if-eq.ensures

pub returns-in_default-clause-place : goal.returns-in_default-clause-place
returns-in_default-clause-place c = λ path.
    let at = c.in-Some.ensures.lookup in
    place_of_another (c.args.client, path) _ _ c.in-Some.there.now c.first_from-place.ensures.place at.3.0 at.1 c.if-eq.ensures

pub returns-in_default-2-clause-place : goal.returns-in_default-2-clause-place
returns-in_default-2-clause-place c = λ path.
    let far : length c.args.scripts.now ≤ c.first_from-place.result = rw c.in_default.is at c.get.ensures.lookup.3 in
    place_at_end (c.args.client, path) _ _ c.first_from-place.ensures.place far
