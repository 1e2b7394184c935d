use Rattle.std.proofs.Common.{◌≡◌, false, ℕ, ◌<◌, Some, None, get_or}
use Rattle.seq_state.specs.State.{Queue}
use Rattle.seq_clients.proofs.queues.QueueTable.has_shared.Given as goal

abbrev pub invariant-loop-number : goal.invariant-loop-number
invariant-loop-number l = (n : ℕ) (q : Queue) → n < l.number → get_or l.self-inside.queues n None ≡ Some q → q.shared ≡ false
