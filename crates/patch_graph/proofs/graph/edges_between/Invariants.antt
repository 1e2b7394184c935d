use Rattle.std.proofs.Common.{◌≡◌, map, take}
use Rattle.std.specs.List.{zip}
use Rattle.patch_graph.specs.Edges.{edge}
use Rattle.patch_graph.proofs.graph.edges_between.Given as goal

abbrev pub invariant-loop-turn : goal.invariant-loop-turn
invariant-loop-turn l = l.edges.items ≡ map (λ p. edge p.1.0 p.0.0) (take l.turn (zip l.targets l.sources))
