use Rattle.seq_sending.proofs.Known.{found-same, found-set}
use Rattle.seq_sending.proofs.table.keep_ways.Goals as goal

pub returns-in_err-make_place : goal.returns-in_err-make_place
returns-in_err-make_place c clients edges changes are before kept =
    found-same clients edges changes c.make_place.new.places.items c.args.places.now.items c.make_place.ensures.same kept

pub returns : goal.returns
returns c clients edges changes are before kept =
    let at = c.place_of-place.ensures.place in
    found-set clients edges changes c.make_place.new.places.items c.args.source.now at.0 c.place_of-place.result c.args.found at.1 c.in_ok-make_place.ensures.there before are
    (found-same clients edges changes c.make_place.new.places.items c.args.places.now.items c.make_place.ensures.same kept)
