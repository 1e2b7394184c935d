use Rattle.seq_state.proofs.Order.{due_law}
use Rattle.seq_state.proofs.Sorted.{sort_law}
use Rattle.seq_state.proofs.laws.due_in_order.Goals as goal

pub returns-clause-moments : goal.returns-clause-moments
returns-clause-moments c = due_law

pub returns-clause-sort : goal.returns-clause-sort
returns-clause-sort c = sort_law
