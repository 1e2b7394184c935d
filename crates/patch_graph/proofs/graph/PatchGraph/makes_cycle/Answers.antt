use Rattle.std.proofs.Common.{sym, ◌∙◌}
use Rattle.patch_graph.proofs.Same.{addr_eq}
use Rattle.patch_graph.proofs.Chained.{cycle_same, cycle_reached}
use Rattle.patch_graph.proofs.graph.PatchGraph.makes_cycle.Goals as goal

pub returns-then-eq : goal.returns-then-eq
returns-then-eq c =
    c.if-eq.true ∙ sym (cycle_same c.args.self.now c.args.source.now c.args.target.now (sym c.is_filter.ensures ∙ c.if-is_filter.true) (sym (addr_eq c.args.target.now c.args.source.now) ∙ sym c.eq.ensures ∙ c.if-eq.true))

pub returns-else-eq : goal.returns-else-eq
returns-else-eq c =
    cycle_reached c.args.self.now c.args.source.now c.args.target.now c.reaches.result (sym c.is_filter.ensures ∙ c.if-is_filter.true) (sym (addr_eq c.args.target.now c.args.source.now) ∙ sym c.eq.ensures ∙ c.if-eq.false) c.reaches.ensures
