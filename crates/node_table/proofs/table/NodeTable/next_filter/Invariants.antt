use Rattle.std.proofs.Common.{◌≡◌, ◌≤◌, ◌<◌, ◌+◌, ℕ, get_or, None}
use Rattle.node_table.proofs.table.NodeTable.next_filter.Given as goal

abbrev pub invariant-loop-number : goal.invariant-loop-number
invariant-loop-number g l = (n : ℕ) → l.from ≤ n → n < l.number → get_or l.self-inside.keys.items (l.first + n) None ≡ None
