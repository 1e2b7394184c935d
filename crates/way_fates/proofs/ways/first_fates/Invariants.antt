use Rattle.patch_graph.specs.Paths.{routes}
use Rattle.way_fates.specs.Kept.{fates_by}
use Rattle.way_fates.proofs.Fated.{AreFated}
use Rattle.way_fates.proofs.ways.first_fates.Given as goal

abbrev pub invariant-loop-turn : goal.invariant-loop-turn
invariant-loop-turn l =
    AreFated l.clients.clients l.message l.most l._turn l.ways.items l.rooms l.routes (fates_by l.clients.clients l.message l.fn.rooms (routes l.graph l.source))
