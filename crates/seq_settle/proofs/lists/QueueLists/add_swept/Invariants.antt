use Rattle.std.proofs.Common.{◌≡◌, ◌+◌, ◌-◌, ℕ, vec_len}
use Rattle.seq_settle.specs.Lists.{list_at}
use Rattle.seq_settle.proofs.Listings.{lists_of}
use Rattle.seq_settle.proofs.lists.QueueLists.add_swept.Given as goal

abbrev pub invariant-loop-self : goal.invariant-loop-self
invariant-loop-self l = (r : ℕ) → list_at (lists_of l.self-inside.rows.items) r ≡ list_at l.fn.self r

abbrev pub decreases-loop-self : goal.decreases-loop-self
decreases-loop-self l = l.row + 1 - vec_len l.self-inside.rows
