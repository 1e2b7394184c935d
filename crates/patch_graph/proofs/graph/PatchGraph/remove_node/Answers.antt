use Rattle.std.proofs.Common.{sym, ◌∙◌}
use Rattle.patch_graph.specs.Index.{LosesOne}
use Rattle.patch_graph.proofs.Removed.{loses_length, loses_kept, loses_targets, loses_source, where_none, all_gone}
use Rattle.patch_graph.proofs.graph.PatchGraph.remove_node.Goals as goal

pub loop-smaller : goal.loop-smaller
loop-smaller c = loses_length _ _ _ c.loop-test.ensures.gone

pub loop-preserved : goal.loop-preserved
loop-preserved c = loses_kept _ _ _ c.loop-test.ensures.gone ∙ c.loop.invariant

loses : (c : goal.In-loop-2) → LosesOne c.args.node.now c.loop-2.self c.pop_source.new.self
loses c = loses_source _ _ c.args.node.now c.pop_source.result (sym c.is_some.ensures ∙ c.loop-2-test.true) c.pop_source.ensures.there c.pop_source.ensures.rest

pub loop-2-smaller : goal.loop-2-smaller
loop-2-smaller c = loses_length _ _ _ (loses c)

pub loop-2-preserved : goal.loop-2-preserved
loop-2-preserved c =
    (loses_kept _ _ _ (loses c) ∙ c.loop-2.invariant.0, loses_targets _ _ _ (loses c) c.loop-2.invariant.1)

pub returns : goal.returns
returns c =
    let none = sym c.is_some.ensures ∙ c.loop-2-test.false in
    where_none _ none c.pop_source.ensures.kept ∙ all_gone _ _ c.loop-2.invariant.1 (where_none _ none c.pop_source.ensures.none) ∙ c.loop-2.invariant.0
