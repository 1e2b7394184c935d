use Rattle.std.proofs.Common.{ℕ, map, drop, ap, sym, ◌∙◌}
use Rattle.std.proofs.lemmas.Slice.Zip.{seconds-zip}
use Rattle.std.proofs.lemmas.List.{take_rest}
use Rattle.node_table.specs.declared.number.Addr.{Addr}
use Rattle.patch_graph.proofs.Closed.{dropped_long}
use Rattle.patch_graph.proofs.links.Links.ages.Goals as goal

pub returns : goal.returns
returns c = take_rest c.deref.result.now c.self.inside.first ∙ ap (drop c.self.inside.first) c.deref.ensures.value ∙ sym (seconds-zip (drop c.self.inside.first c.self.inside.nodes.items) (drop c.self.inside.first c.self.inside.ages.items) (dropped_long c.self.inside.nodes.items c.self.inside.ages.items c.self.inside.first c.self.invariant.0)) ∙ ap (map (λ (x : Addr × ℕ). x.1)) c.self.view_is
