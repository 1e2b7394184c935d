use Rattle.seq_sending.proofs.Known.{at-place, found-is}
use Rattle.seq_sending.proofs.table.known.Goals as goal

pub returns-in-Some-Some : goal.returns-in-Some-Some
returns-in-Some-Some c clients edges kept =
    let at = c.place_of.ensures.place in
    let some = c.in-Some-Some in
    found-is clients edges c.args.changes.now c.args.places.now c.args.source.now at.0 c.place_of.result some.found kept at.1
    (at-place c.args.places.now c.place_of.result some.found some.field-0.now some.ensures.lookup.0 some.ensures.lookup.1 some.field-0-is) c.if-found-eq0.true (c.is_current.ensures c.if-is_current.true)
