use Rattle.std.proofs.Common.{List, take, ap, subst, ◌∙◌}
use Rattle.patch_graph.specs.Paths.{routes}
use Rattle.patch_graph.specs.declared.edge.Edge.{Edge}
use Rattle.seq_clients.specs.Roster.{Roster}
use Rattle.way_fates.specs.Kept.{AreRooms, fates_by}
use Rattle.way_fates.proofs.Roomed.{first-fates}
use Rattle.way_fates.proofs.ways.fates.Goals as goal

pub returns-clause-ways : goal.returns-clause-ways
returns-clause-ways c =
    let a = c.args in
    let clients = a.patchbay.now.clients in
    let edges = a.patchbay.now.graph in
    let rooms = c.in_ok-rooms.rooms in
    let are = subst (λ (r : Roster). AreRooms a.moment r.pools rooms) c.clients-clients.ensures c.in_ok-rooms.ensures in
    c.new-2.ensures ∙ c.in_ok-ways.ensures
    ∙ ap (λ (r : Roster). take a.most (fates_by r.clients a.message.now rooms (routes c.graph-graph.result.now a.source.now))) c.clients-clients.ensures
    ∙ ap (λ (es : List Edge). take a.most (fates_by clients.clients a.message.now rooms (routes es a.source.now))) c.graph-graph.ensures
    ∙ first-fates a.moment a.source.now a.message.now clients edges rooms a.most are
