use Rattle.patch_graph.proofs.Marks.{none_found}
use Rattle.patch_graph.proofs.found.Found.new.Goals as goal

pub invariant_of-result : goal.invariant_of-result
invariant_of-result c = none_found _ _ c.unmarked.ensures.len c.zeros.ensures.len c.unmarked.ensures.none c.zeros.ensures.zeros
