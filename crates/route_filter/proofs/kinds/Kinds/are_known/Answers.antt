use Rattle.bitflags.proofs.OnLiterals.{bitflags_on_literals}
use Rattle.route_filter.proofs.Sets.{known-kinds}
use Rattle.route_filter.proofs.kinds.Kinds.are_known.Goals as goal

pub returns : goal.returns
unfolding bitflags_on_literals
returns c = known-kinds _ _ (c.contains_unknown_bits.ensures tt)
