use Rattle.std.proofs.Common.{◌<◌, arith}
use Rattle.patch_graph.proofs.Same.{place-below}
use Rattle.patch_graph.proofs.graph.pop_at.Goals as goal

pub bounds-lists-place_of : goal.bounds-lists-place_of
bounds-lists-place_of c = let low : c.place_of.result < 2048 = place-below _ _ _ c.place_of.ensures.place.1 in omega (arith, low, c.requires)
