use Rattle.std.proofs.Common.{ap, ◌∙◌}
use Rattle.patch_graph.specs.Index.{origins_of}
use Rattle.patch_graph.proofs.Removed.{loses_kept, loses_length}
use Rattle.seq_patchbay.proofs.Gone.{none-into}
use Rattle.seq_patchbay.proofs.patchbay.Patchbay.end_into.Goals as goal

pub loop-smaller : goal.loop-smaller
loop-smaller c = loses_length _ _ _ c.loop-test.ensures.gone

pub loop-preserved : goal.loop-preserved
loop-preserved c = (c.end_youngest_into.ensures.clients ∙ c.loop.invariant.0, loses_kept _ _ _ c.loop-test.ensures.gone ∙ c.loop.invariant.1)

pub returns-clause-none : goal.returns-clause-none
returns-clause-none c = none-into _ c.args.node.now (ap (λ es. origins_of es c.args.node.now) c.loop-test.ensures.kept ∙ c.loop-test.ensures.none)
