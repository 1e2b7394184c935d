use Rattle.std.proofs.Common.{◌<◌, None, set, sym, subst, ◌∙◌}
use Rattle.seq_sending.specs.Table.{AreWaysFound, IsSlotFound}
use Rattle.seq_sending.proofs.Known.{found-none, slot-none, within}
use Rattle.seq_sending.proofs.table.take.Goals as goal

pub returns-then-place-len-clause-taken : goal.returns-then-place-len-clause-taken
returns-then-place-len-clause-taken c clients edges changes kept = slot-none clients edges changes c.args.place

pub returns-clause-left : goal.returns-clause-left
returns-clause-left c clients edges changes kept =
    let places = c.args.places.now.items in
    let place = c.args.place in
    subst (λ o. AreWaysFound clients edges changes (set places place o)) (sym c.take.ensures.after)
    (found-none clients edges changes places place (subst (λ n. place < n) (c.len.ensures ∙ c.args.places.now.ok.0) c.if-place-len.false) kept)

pub returns-clause-taken : goal.returns-clause-taken
returns-clause-taken c clients edges changes kept =
    let places = c.args.places.now.items in
    let place = c.args.place in
    let there = subst (λ n. place < n) (c.len.ensures ∙ c.args.places.now.ok.0) c.if-place-len.false in
    subst (IsSlotFound clients edges changes place) (within places place None _ there ∙ sym c.index_mut.ensures.value ∙ sym c.take.ensures.value) (kept place)
