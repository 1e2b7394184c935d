use Rattle.patch_graph.proofs.Chained.{joined_law}
use Rattle.patch_graph.proofs.laws.joined_is_reached.Goals as goal

pub returns : goal.returns
returns c = joined_law
