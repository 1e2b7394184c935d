use Rattle.patch_graph.specs.Paths.{routes}
use Rattle.way_fates.specs.Kept.{fates_by}
use Rattle.way_fates.proofs.Fated.{fated-more}
use Rattle.way_fates.proofs.ways.first_fates.Goals as goal

pub loop-turn-preserved : goal.loop-turn-preserved
loop-turn-preserved c =
    let a = c.args in
    let l = c.loop-turn in
    fated-more a.clients.now.clients a.message.now a.most l._turn l.ways.items c.push.new.self.items l.rooms c.fate_on.new.rooms l.routes c.next.new.self c.in-Some.route c.in_ok-fate.fate
    (fates_by a.clients.now.clients a.message.now a.rooms.now (routes a.graph.now a.source.now)) c.loop-turn-test.true
    c.in-Some.ensures.given c.in_ok-fate.ensures.fate c.in_ok-fate.ensures.left c.in_ok-push.ensures.items l.invariant
