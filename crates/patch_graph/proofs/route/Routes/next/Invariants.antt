use Rattle.std.proofs.Common.{map}
use Rattle.patch_graph.proofs.Coming.{IsWalk, work}
use Rattle.patch_graph.proofs.route.Routes.next.Given as goal

abbrev pub invariant-loop-self : goal.invariant-loop-self
invariant-loop-self l = IsWalk l.self-inside.graph.now l.self-inside.nodes (map (λ s. s.now) l.self-inside.left) l.self-inside.depth l.fn.self

abbrev pub decreases-loop-self : goal.decreases-loop-self
decreases-loop-self l = work l.self-inside.graph.now (map (λ s. s.now) l.self-inside.left) l.self-inside.depth
