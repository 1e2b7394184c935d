use Rattle.seq_state.proofs.Cycles.{cycle_law}
use Rattle.seq_state.proofs.laws.filters_make_no_cycle.Goals as goal

pub returns : goal.returns
returns c = cycle_law
